-- Small problems that tell the search from a wrong one, by computation. Assumes nothing.
use Rattle.std.specs.Prelude.{List, [], ◌∷◌, ◌≡◌, refl, ℕ, length}
use Rattle.points.specs.Points.{Clause, numbered_from, numbered}
use Rattle.permutation_theory.specs.Permutations.{Permutation}
use Rattle.formula.specs.Problem.{Problem}
use Rattle.formula.specs.Reply.{satisfiable, unknown}
use Rattle.search_theory.specs.Walk.{slot, walked}

abbrev clause : ℕ → ℕ → Clause
clause p n = record { positive = p; negative = n }

abbrev problem : ℕ → ℕ → List Permutation → List Clause → Problem
problem n target es cs = record {
  variables = n;
  total = length cs;
  target = target;
  permutations = es;
  clauses = numbered cs;
}

-- T1: "Taking the newest point: still sound, but the choice is no longer nearest.": the clauses (1 2), (-1 4), (-2 3),
-- (-3 4) and the target 0000. 1001 is handed back, of distance 2; from the newest point, 0100, it would be 0111, of
-- distance 3
pub oldest_first : (walked (problem 4 0 [] (clause 3 0 ∷ clause 8 1 ∷ clause 4 2 ∷ clause 8 4 ∷ [])) 16).reply
    ≡ satisfiable 9 2 5
unfolding walked numbered_from
oldest_first = refl

-- T2: "Storing the exchange's image instead of the flipped point: changes lose their meaning.": the clause (3), the
-- permutation 2 1 3 and the target 100. 101 is handed back, of distance 1; its image, 011, has distance 3 at the same
-- depth
pub flipped_stored : (walked (problem 3 1 (record { images = 2 ∷ 1 ∷ 3 ∷ [] } ∷ []) (clause 4 0 ∷ [])) 8).reply
    ≡ satisfiable 5 1 2
unfolding walked numbered_from
flipped_stored = refl

-- W11: "Depth may exceed n.": two variables, the clauses (1), (2), (-1) and the target 00 have the depths 0 1 2 3
pub depth_exceeds : (walked (problem 2 0 [] (clause 1 0 ∷ clause 2 0 ∷ clause 0 1 ∷ [])) 4).slots
    ≡ slot 0 1 0 ∷ slot 1 2 1 ∷ slot 3 3 2 ∷ slot 2 1 3 ∷ []
unfolding walked numbered_from
depth_exceeds = refl

-- Q03.2: "Among the nearest choices in the slots the one smallest as a number is now handed back.": from the clause
-- (-1 -2 3) and the target 110 the slots get 010, 100 and 111, that is 2, 1 and 7. All three satisfy; 1 is handed back,
-- neither the first nor the last
pub smallest_of_level : (walked (problem 3 3 [] (clause 4 3 ∷ [])) 8).reply ≡ satisfiable 1 1 4
unfolding walked numbered_from
smallest_of_level = refl

-- Q03.5: "Case B, the program's example too, now fills 3 slots, with P = 3 it is met": the clauses (1 2), (-1 3) and
-- the target 000. 010 is found before 100, the older one, is processed
pub level_tested : (walked (problem 3 0 [] (clause 3 0 ∷ clause 4 1 ∷ [])) 3).reply ≡ satisfiable 2 1 3
unfolding walked numbered_from
level_tested = refl

-- Q03.5: "case A with P = 3 carries 2": the clauses (1 2), (-1 2), (1 -2), (-1 -2) and the target 00. The flip of 10,
-- of depth 1, finds no room
pub next_depth_carried : (walked (problem 2 0 [] (clause 3 0 ∷ clause 2 1 ∷ clause 1 2 ∷ clause 0 3 ∷ [])) 3).reply
    ≡ unknown 2 3
unfolding walked numbered_from
next_depth_carried = refl

-- Q03.3: "all unprocessed points of that depth", and not those of the first parent alone: the clauses (-1 -2), (-2 -3),
-- (-1 -3) and the target 111. At depth 2 the first parent's points are 001 and 010; 100, of the second, is smaller
pub second_parent : (walked (problem 3 7 [] (clause 0 3 ∷ clause 0 6 ∷ clause 0 5 ∷ [])) 8).reply ≡ satisfiable 1 2 6
unfolding walked numbered_from
second_parent = refl
