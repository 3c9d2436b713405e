use Prim.Native.Nat.{◌+◌, ◌-◌, ◌*◌}
use mathlib.Core.Path.{◌≡◌, ap, ◌∙◌}
use mathlib.Core.List.{◌++◌}
use native.Mathlib.Omega.{arith}
use borrow.Rule.Slice.PartMut.{mid_len}
use lib.ListN.{length, take, drop}
use Rattle.leaves.specs.Square.{zeros}
use Rattle.frozen.proofs.Runs.{one_less}
use Rattle.frozen.proofs.Spreads.{run_long, spread_turn, spread_end}
use Rattle.frozen.proofs.narrow.lay_runs.Goals as goal

pub loop-k-preserved : goal.loop-k-preserved
loop-k-preserved c =
    let l = c.loop-k in
    let g = c.args in
    let t = c.loop-k-test.true in
    let h = one_less g.count l.k g.w t in
    let k = one_less g.count l.k g.apart t in
    let a = l.k * g.w in
    let b = l.k * g.apart in
    let y = c.lay_run.new.dst in
    let e : a + g.w - a ≡ g.w = omega arith in
    let f : b + g.apart - b ≡ g.apart = omega arith in
    let m = mid_len a (a + g.w) g.src.now (omega arith) ∙ e in
    let o = mid_len b (b + g.apart) l.dst (omega arith) ∙ f in
    let d : y ≡ take g.w (drop a g.src.now) ++ zeros (g.apart - g.w) = rw (m, o, e) at c.lay_run.ensures in
    let z : length y ≡ g.apart = ap length d ∙ run_long g.w g.apart a g.src.now (omega arith) (omega arith) in
    spread_turn g.w g.apart g.count l.k g.src.now l.dst y _ t (omega arith) z d ∙ l.invariant

pub returns : goal.returns
returns c =
    let l = c.loop-k in
    let g = c.args in
    let e : l.k ≡ g.count = omega arith in
    spread_end g.w g.apart (g.count - l.k) (l.k * g.w) (l.k * g.apart) g.src.now l.dst _ (omega arith) (rw e (l.auto.dst ∙ c.requires.dst_len)) l.invariant
