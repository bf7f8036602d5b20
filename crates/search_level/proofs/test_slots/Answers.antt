-- `search_level::test_slots` meets its contract: the slots up to index i are tested. Assumes nothing.
use Rattle.std.proofs.Common.{refl, le_trans, arith, rules}
use Rattle.point_slices.specs.Laws.Contracts.{clauses_lent}
use Rattle.point_slices.specs.Laws.SliceLaws.{falsified_le}
use Rattle.search_level.specs.Laws.TestingLaws.{scans_begin, scans_on, scans_end}
use Rattle.search_level.proofs.test_slots.Goals as goal

pub loop-i-init : goal.loop-i-init
loop-i-init c = (scans_begin _ _ _ _ (le_trans c.requires.ordered c.requires.enough), refl)

pub overflow_cast-number : goal.overflow_cast-number
overflow_cast-number c =
    omega (arith, c.first_falsified-number.ensures, falsified_le (clauses_lent c.args.clauses) c.point_at-x.result 0, c.requires.few_clauses_lem)

pub loop-i-preserved : goal.loop-i-preserved
loop-i-preserved c =
    let inv = c.loop-i.invariant in
    let pre = c.requires in (
      scans_on _ _ _ inv.0 c.loop-i.auto.i (omega (arith, pre.enough, c.loop-i-test.true)) (omega (arith, pre.room, inv.1, c.loop-i-test.true)) c.point_at-x.ensures c.first_falsified-number.ensures c.put.ensures c.better-best.ensures,
      search rules,
    )

pub returns : goal.returns
returns c = scans_end _ _ _ c.loop-i.invariant.0 (c.loop-i.auto.i-end c.requires.ordered) c.loop-i-test.false
