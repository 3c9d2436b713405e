use mathlib.Core.Path.{refl, ap, ◌∙◌}
use lib.Seq.{take_at}
use Rattle.std.specs.Prelude.{is_ok}
use Rattle.calls.proofs.Ways.{gather-worked, free_fits, first_places}
use Rattle.calls.proofs.lent.FrozenProblem.gather.Goals as goal

pub unwrap-requires : goal.unwrap-requires
unwrap-requires c =
    let p = c.args.self.now in
    let l = first_places c.args.w.now c.told-w (free_fits p.reducible) refl in
    ap is_ok (gather-worked p.st.n p.st.marks c.args.xs.now _ _ _ c.requires (l ∙ p.reducible.counted) c.gather_free.ensures).0

pub returns : goal.returns
returns c =
    let p = c.args.self.now in
    let l = first_places c.args.w.now c.told-w (free_fits p.reducible) refl in
    take_at c.gather_free.new.dst _ p.free (c.gather_free.auto.dst ∙ l) ∙ (gather-worked p.st.n p.st.marks c.args.xs.now _ _ _ c.requires (l ∙ p.reducible.counted) c.gather_free.ensures).1
