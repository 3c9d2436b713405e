use Prim.Native.Nat.{◌+◌, ◌-◌, ◌*◌}
use mathlib.Core.Path.{◌≡◌, ap, ◌∙◌}
use native.Mathlib.Omega.{arith}
use lib.ListN.{length, take, drop}
use borrow.Rule.Slice.PartMut.{mid_len}
use Rattle.frozen.proofs.Runs.{one_less, runs_turn, runs-end}
use Rattle.frozen.proofs.narrow.copy_runs.Goals as goal

pub loop-k-preserved : goal.loop-k-preserved
loop-k-preserved c =
    let l = c.loop-k in
    let g = c.args in
    let t = c.loop-k-test.true in
    let h = one_less g.count l.k g.apart t in
    let k = one_less g.count l.k g.w t in
    let a = l.k * g.apart in
    let y = c.copy_from_slice.new.self in
    let e : a + g.w - a ≡ g.w = omega arith in
    let d : y ≡ take g.w (drop a g.src.now) = rw e at c.copy_from_slice.ensures.after in
    let z : length y ≡ g.w = ap length c.copy_from_slice.ensures.after ∙ (mid_len a (a + g.w) g.src.now (omega arith) ∙ e) in
    runs_turn g.w g.apart g.count l.k g.src.now l.dst y _ t (omega arith) z d ∙ l.invariant

pub returns : goal.returns
returns c =
    let l = c.loop-k in
    let g = c.args in
    let e : l.k ≡ g.count = omega arith in
    runs-end g.w g.apart (g.count - l.k) (l.k * g.apart) (l.k * g.w) g.src.now l.dst _ (omega arith) (rw e (l.auto.dst ∙ c.requires.dst_len)) l.invariant
