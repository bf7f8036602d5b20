-- `search_loop::explore` meets its contract: a law of WalkingLaws for each event of the loop. Assumes nothing.
use Rattle.std.proofs.Common.{◌≡◌, ℕ, get_or, refl, ◌∙◌, rules}
use Rattle.std.proofs.lemmas.List.{length-replicate}
use Rattle.formula.specs.Limits.{max_permutations}
use Rattle.permutation_coverage.specs.Laws.CoverageLaws.{imaged_none}
use Rattle.point_slices.specs.Slices.{points_of}
use Rattle.search_expansion.specs.Laws.FillingLaws.{sizes_refl, sizes_trans}
use Rattle.search_loop.specs.Laws.TestedLaws.{level_met}
use Rattle.search_loop.specs.Laws.WalkingLaws.{walking_answers, walking_ends, exploring_begins}
use Rattle.search_loop.specs.Laws.WalkingLaws.{exploring_goes_on, outgrown_pauses, headed_still}
use Rattle.search_loop.specs.Laws.WalkingLaws.{explorable_still, explorable_headed, explorable_testable}
use Rattle.search_loop.specs.Laws.WalkingLaws.{explorable_narrow, explorable_processable}
use Rattle.search_loop.proofs.explore.Goals as goal

pub loop-position-init : goal.loop-position-init
unfolding points_of
loop-position-init c =
    let s = c.requires.resumable.searchable in (
      exploring_begins c.args.found.now c.requires.linked c.requires.numbers,
      sizes_refl _ _ _ _,
      refl,
      length-replicate {A = ℕ} max_permutations 0,
      imaged_none _ _ max_permutations _ s.few_permutations_lem,
    )

pub returns-then-outgrown : goal.returns-then-outgrown
returns-then-outgrown c =
    let inv = c.loop-position.invariant in
    let e = explorable_still c.requires inv.0 inv.1 inv.2 in
    record {
      walking = inv.0.walking;
      outgrown = outgrown_pauses c.args.g _ _ c.outgrown.ensures c.if-outgrown.true;
      headed = explorable_headed e;
      numbers = inv.0.numbers;
    }

pub test_level-requires : goal.test_level-requires
test_level-requires c =
    let inv = c.loop-position.invariant in
    let e = explorable_still c.requires inv.0 inv.1 inv.2 in
    (explorable_testable e c.loop-position-test.true, inv.0.numbers)

pub returns-in-Some : goal.returns-in-Some
returns-in-Some c =
    rw c.handed_back.ensures
    (walking_answers _ _ c.loop-position.invariant.0.walking (level_met _ _ c.requires.resumable.searchable _ c.loop-position.position c.in-Some.ensures c.loop-position-test.true refl))

pub move_images-requires : goal.move_images-requires
move_images-requires c =
    let inv = c.loop-position.invariant in
    let e = explorable_still c.requires inv.0 inv.1 inv.2 in
    (c.requires.resumable.searchable.permuting, inv.4, explorable_narrow e _ c.point_at-x.ensures c.loop-position-test.true)

pub process-requires : goal.process-requires
process-requires c =
    let inv = c.loop-position.invariant in
    let e = explorable_still c.requires inv.0 inv.1 inv.2 in
    let kept : c.unwrap_or-number.result ≡ get_or c.test_level.new.found c.loop-position.position.at 0 = search rules in
    explorable_processable e _ _ c.point_at-x.ensures c.loop-position-test.true c.in_default.ensures (headed_still c.args.g _ _ c.outgrown.ensures c.if-outgrown.false) c.move_images.ensures kept

pub loop-position-preserved : goal.loop-position-preserved
loop-position-preserved c =
    let inv = c.loop-position.invariant in
    let e = explorable_still c.requires inv.0 inv.1 inv.2 in
    let done = c.in-Ok.ensures in
    let kept = c.process.auto in (
      exploring_goes_on inv.0 e.resumable.midway c.loop-position-test.true c.in_default.ensures.numbers done.0 done.1 done.2,
      sizes_trans inv.1 (record { points_size = kept.points; falsified_size = kept.falsified; depths_size = kept.depths; links_size = kept.links }),
      c.test_level.auto.found ∙ inv.2,
      c.move_images.auto.moved ∙ inv.3,
      c.move_images.ensures,
    )

pub returns : goal.returns
returns c = rw c.exhausted.ensures (walking_ends _ _ c.loop-position.invariant.0.walking c.loop-position-test.false)
