-- A clause's line, part by part, how long it is at most, and the whole of a written text. Assumes nothing.
use Rattle.std.specs.Prelude.{◌≡◌, ℕ, ◌+◌, ◌*◌, ◌≤◌, ◌<◌, length}
use mathlib.Core.List.{List, ◌∷◌, [], ◌++◌, map, flat_map, append_assoc}
use Rattle.std.proofs.Common.{ap, ◌∙◌, le_trans, arith, length-append}
use Rattle.math.specs.Bits.{bit, members}
use Rattle.math.specs.Lists.{below}
use Rattle.math.specs.Laws.ListLaws.{select_out}
use Rattle.math.specs.Laws.CountLaws.{below_out}
use Rattle.math.specs.Laws.SetLaws.{members_few}
use Rattle.math.specs.Laws.SplitLaws.{flat_map_map, flat_map_flat_map, length_flat_map_le}
use Rattle.points.specs.Points.{Clause, listed, variables}
use Rattle.formula.specs.Limits.{max_variables, max_clauses, max_permutations}
use Rattle.dimacs_format.specs.Text.{ascii}
use Rattle.dimacs_format.specs.Input.{Input}
use Rattle.dimacs_format.specs.Laws.InputLaws.{Proper}
use Rattle.text_output.specs.Decimal.{line_end, line}
use Rattle.dimacs_text.specs.SheetText.{spelling, target_line, literals_at, literals_of, clause_line, sheet_text}
use Rattle.dimacs_text.specs.Laws.WordLaws.{spaced_last}
use Rattle.dimacs_text.specs.Laws.TextParts.{literal_part, variable_part, clause_end, permutation_part, clause_part}
use Rattle.dimacs_text.specs.Laws.TextParts.{sheet_parts_lem}
use Rattle.dimacs_text.specs.Laws.LengthLaws.{longest_variable, longest_clause, variable-length, problem-length}
use Rattle.dimacs_text.specs.Laws.LengthLaws.{target_length, permutations-length, longest_sheet}

-- a clause's line: a part for each variable that it lists, and its end
pub clause-parts : (n : ℕ) (c : Clause)
    → clause_line n c ++ line_end ≡ flat_map (variable_part c) (members n (listed c)) ++ clause_end
unfolding clause_line literals_of variables variable_part literal_part
clause-parts n c =
    let names : List ℕ = members n (listed c) in
    let words : List (List ℕ) = map spelling (flat_map (literals_at c) names) in
    ap (λ l. l ++ line_end)
    (spaced_last words (ascii "0")
    ∙ ap (λ l. l ++ ascii "0") (flat_map_map (λ v. v ++ 32 ∷ []) spelling (flat_map (literals_at c) names)
    ∙ flat_map_flat_map (λ l. spelling l ++ 32 ∷ []) (literals_at c) names))
    ∙ append_assoc (flat_map (variable_part c) names) (ascii "0") line_end

pub clause-length : (n : ℕ) (c : Clause) → n ≤ max_variables → length (clause_part n c) ≤ n * longest_variable + 2
unfolding members
clause-length n c few =
    let parts : List ℕ = flat_map (variable_part c) (members n (listed c)) in
    omega (
      arith,
      ap length (clause-parts n c),
      length-append parts clause_end,
      length_flat_map_le (variable_part c) longest_variable (members n (listed c)) (λ i m. variable-length c i
          (let lt : i < n = below_out n i (select_out (bit (listed c)) (below n) m).0 in omega arith)),
      members_few n (listed c),
    )

-- ---- the whole text

pub sheet-length : (d : Input) → Proper d → length (sheet_text d) ≤ longest_sheet
sheet-length d h =
    let n : ℕ = d.variables in
    let few = h.few_variables in
    let problem : List ℕ = line (ascii "p cnf ") n (ascii " ") (length d.clauses) in
    let target : List ℕ = target_line n d.target ++ line_end in
    let permutations : List ℕ = flat_map permutation_part d.permutations in
    let clauses : List ℕ = flat_map (clause_part n) d.clauses in
    omega (
      arith,
      ap length (sheet_parts_lem d),
      length-append (problem ++ target ++ permutations) clauses,
      length-append (problem ++ target) permutations,
      length-append problem target,
      problem-length n (length d.clauses) few h.few_clauses_lem,
      target_length n d.target,
      permutations-length n d.permutations h.some-variable few h.permutations,
      h.few_permutations_lem,
      length_flat_map_le (clause_part n) longest_clause d.clauses (λ c m. le_trans (clause-length n c few) (omega arith)),
      h.few_clauses_lem,
    )
