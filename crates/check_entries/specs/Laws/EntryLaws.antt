-- Laws of the rows 16, 17 and 18 of the first entries of two slices, of entries copied to an array, and of arrays of
-- zeros. Assumes nothing.
use Rattle.std.specs.Prelude.{true, List, ◌≡◌, ℕ, ◌≤◌, ◌<◌, length, take, replicate}
use Rattle.std.proofs.Common.{sym, ap, ◌∙◌, le_of_eq, le_trans, le_refl, arith, length-take-le}
use Rattle.std.proofs.lemmas.List.{length-replicate}
use Rattle.point_slices.specs.Laws.SliceLaws.{points_blank}
use Rattle.permutation_images.specs.declared.Permutations.{Permutations}
use Rattle.point_index.specs.declared.Index.{Index}
use Rattle.check_entries.specs.declared.Bodies.{Bodies}
use Rattle.point_slices.specs.Slices.{points_of}
use Rattle.math.specs.Lists.{over}
use Rattle.math.specs.Laws.PartLaws.{over-front}
use Rattle.points.specs.Points.{Clause, Numbered}
use Rattle.permutation_theory.specs.Permutations.{Permutation}
use Rattle.formula.specs.Limits.{max_slots}
use Rattle.formula.specs.Reply.{Fault, no_fault}
use Rattle.formula.specs.Laws.ReplyLaws.{IsFault, answers-first, answers-rest, first_last}
use Rattle.certificate.specs.Bytes.{number_from, numbers_in}
use Rattle.math.specs.Laws.NumeralLaws.{length-entries}
use Rattle.certificate.specs.Laws.RowLaws.{points_fault-take, numbers_fault-take}
use Rattle.certificate.specs.Rows.{points_fault, numbers_fault}
use Rattle.check_flips.proofs.FlipLaws.{flips_fault-take}
use Rattle.check_flips.specs.Flips.{flips_fault}
use Rattle.check_flips.specs.Laws.Loops.{Testable}
use Rattle.check_distinct.specs.Laws.Indexing.{Refuses, suits}
use Rattle.check_distinct.specs.Laws.IndexingLaws.{zeros_links, links_indexable}
use Rattle.check_entries.specs.Laws.Entries.{lists_fault, Ready, Decodable, Lent}

-- ---- the rows 16, 17 and 18, of the first entries of two slices

module _ (n : ℕ) (cs : List Numbered) (es : List Permutation) (points falsified : List ℕ) (count : ℕ)
    (enough : count ≤ length points) where
  abbrev ps : List ℕ
  ps = take count points

  abbrev ns : List ℕ
  ns = take count falsified

  counted : length ps ≡ count
  counted = length-take-le count points enough

  row16 : points_fault max_slots n count points ≡ points_fault max_slots n (length ps) ps
  row16 = sym (points_fault-take n points max_slots count) ∙ ap (λ (k : ℕ). points_fault max_slots n k ps) (sym counted)

  row17 : numbers_fault cs count points falsified ≡ numbers_fault cs (length ps) ps ns
  row17 = sym (numbers_fault-take cs points falsified count) ∙ ap (λ (k : ℕ). numbers_fault cs k ps ns) (sym counted)

  row18 : flips_fault n cs es ps falsified ≡ flips_fault n cs es ps ns
  row18 = sym (flips_fault-take n cs es ps falsified count counted)

  pub stops_16 : (r : Fault) → r ≡ points_fault max_slots n count points → IsFault r → r ≡ lists_fault n cs es ps ns
  stops_16 r e h = answers-first r _ _ (e ∙ row16) h

  pub stops_17 : (r : Fault) → points_fault max_slots n count points ≡ no_fault
      → r ≡ numbers_fault cs count points falsified
      → IsFault r → r ≡ lists_fault n cs es ps ns
  stops_17 r sixteen e h = answers-rest r _ _ (sym row16 ∙ sixteen) (answers-first r _ _ (e ∙ row17) h)

  pub ends_18 : (r : Fault) → points_fault max_slots n count points ≡ no_fault
      → numbers_fault cs count points falsified ≡ no_fault → r ≡ flips_fault n cs es ps falsified
      → r ≡ lists_fault n cs es ps ns
  ends_18 r sixteen seventeen e =
      answers-rest r _ _ (sym row16 ∙ sixteen) (answers-rest r _ _ (sym row17 ∙ seventeen)
      (e ∙ row18 ∙ sym (first_last (flips_fault n cs es ps ns))))

-- ---- entries copied to the front of an array

-- they are its first
pub copied : (w count : ℕ) (body old new : List ℕ) → new ≡ over (numbers_in w count body) old
    → take count new ≡ numbers_in w count body
copied w count body old new e = ap (take count) e
    ∙ over-front count (numbers_in w count body) old (length-entries number_from w count body)

-- ---- what rows 16 and 18 are handed

-- the first entries, copied to a slice as long as the one lent, can be indexed
pub lent_ready : {g : Permutations} {clauses : List Clause} {b : Bodies} {heads limit : ℕ} {held named links : List ℕ}
    → Decodable g clauses b limit → Lent heads b.count held named links → (filled : List ℕ)
    → length filled ≡ length held → Ready g clauses heads filled links b.count
lent_ready d l filled same =
    let long = l.held_long in
    record {
      given = d.given;
      indexable = links_indexable l.linked
          (record { few = d.given.few; enough = omega arith; most = le_refl _ });
    }

-- where row 16 finds nothing it has left an index of the points
pub ready_testable : {g : Permutations} {clauses : List Clause} {index : Index} {links : List ℕ}
    → Ready g clauses index.heads (points_of index.points.now) links index.count → {f : Fault}
    → Refuses index.heads g.variables index.count max_slots (points_of index.points.now) f index.links.now → f ≡ no_fault
    → Testable g clauses index
ready_testable r w e =
    record { given = r.given; enough = r.indexable.enough; indexed = w.full e }

-- ---- arrays of zeros

pub zeros-lent : (heads limit k count : ℕ) → suits heads limit k ≡ true → count ≤ limit
    → Lent heads count (points_of (replicate limit 0)) (replicate limit 0) (replicate k 0)
zeros-lent heads limit k count h few =
    let long : count ≤ length (replicate {A = ℕ} limit 0) =
    le_trans few (le_of_eq (sym (length-replicate {A = ℕ} limit 0))) in
    let all = zeros_links heads limit k h in
    let room = all.room in
    record {
      held_long = le_trans long (le_of_eq (sym (ap length (points_blank limit))));
      named_long = long;
      linked = record {
        headed = all.headed;
        most_slots = le_trans few all.most_slots;
        room = omega arith;
        zeros = all.zeros;
      };
    }

-- how many entries there may be is of no account once there are no more
pub decodable_within : {g : Permutations} {clauses : List Clause} {b : Bodies} {limit : ℕ}
    → Decodable g clauses b limit → limit ≤ max_slots → Decodable g clauses b max_slots
decodable_within d few =
    record {
      given = d.given;
      most = le_trans d.most few;
      points_long = d.points_long;
      numbers_long = d.numbers_long;
    }

-- each number takes a byte at least
pub numbers_fill : {g : Permutations} {clauses : List Clause} {b : Bodies} {limit : ℕ} → Decodable g clauses b limit
    → length b.falsified.now < b.count → ⊥
numbers_fill d short = let long = d.numbers_long in omega arith
