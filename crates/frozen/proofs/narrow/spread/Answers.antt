use Prim.Native.Nat.{◌*◌, ◌≤◌}
use mathlib.Core.Path.{sym, ◌∙◌}
use native.Mathlib.Nat.{mul-le-mul, le_refl}
use native.Mathlib.Omega.{arith}
use borrow.Author.Rules.{rules}
use lib.Ieee.{of_bits}
use lib.ListN.{length-take}
use Rattle.leaves.proofs.Insides.{inside, square_small}
use Rattle.frozen.proofs.Spreads.{spread_n, spread_free, spread_wider, spread_small, spread-store, spread_laid}
use Rattle.frozen.proofs.narrow.spread.Goals as goal

pub returns-then-outside : goal.returns-then-outside
returns-then-outside c = spread_n c.args.n c.args.free c.args.small.now c.args.store.now (sym c.outside.ensures ∙ c.if-outside.true)

pub returns-then-outside-2 : goal.returns-then-outside-2
returns-then-outside-2 c = spread_free c.args.n c.args.free c.args.small.now c.args.store.now (sym c.outside.ensures ∙ c.if-outside.false) (sym c.outside-2.ensures ∙ c.if-outside-2.true)

pub returns-then-n-free : goal.returns-then-n-free
returns-then-n-free c = spread_wider c.args.n c.args.free c.args.small.now c.args.store.now (sym c.outside.ensures ∙ c.if-outside.false) (sym c.outside-2.ensures ∙ c.if-outside-2.false) c.if-n-free.true

pub overflow_mul-p : goal.overflow_mul-p
overflow_mul-p c = let i = inside 1 _ (sym c.outside-2.ensures ∙ c.if-outside-2.false) in let q = square_small i in search rules

pub overflow_mul-free : goal.overflow_mul-free
overflow_mul-free c = let i = inside 1 _ (sym c.outside-2.ensures ∙ c.if-outside-2.false) in let q = square_small i in search rules

pub overflow_add-p : goal.overflow_add-p
overflow_add-p c = let i = inside 1 _ (sym c.outside-2.ensures ∙ c.if-outside-2.false) in let q = square_small i in search rules

pub returns-then-small-p : goal.returns-then-small-p
returns-then-small-p c = spread_small c.args.n c.args.free c.args.small.now c.args.store.now (sym c.outside.ensures ∙ c.if-outside.false) (sym c.outside-2.ensures ∙ c.if-outside-2.false) c.if-n-free.false c.if-small-p.true

pub overflow_mul-a : goal.overflow_mul-a
overflow_mul-a c =
    let g = c.args in
    let i = inside 1 _ (sym c.outside.ensures ∙ c.if-outside.false) in
    let q = square_small i in
    let w : g.free * g.n ≤ g.n * g.n = mul-le-mul c.if-n-free.false (le_refl g.n) in
    search rules

pub overflow_mul-b : goal.overflow_mul-b
overflow_mul-b c = let i = inside 1 _ (sym c.outside.ensures ∙ c.if-outside.false) in let q = square_small i in search rules

pub overflow_mul-e : goal.overflow_mul-e
overflow_mul-e c = let i = inside 1 _ (sym c.outside.ensures ∙ c.if-outside.false) in let q = square_small i in search rules

pub overflow_add-e : goal.overflow_add-e
overflow_add-e c = let i = inside 1 _ (sym c.outside.ensures ∙ c.if-outside.false) in let q = square_small i in search rules

pub returns-then-store-e : goal.returns-then-store-e
returns-then-store-e c = spread-store c.args.n c.args.free c.args.small.now c.args.store.now (sym c.outside.ensures ∙ c.if-outside.false) (sym c.outside-2.ensures ∙ c.if-outside-2.false) c.if-n-free.false c.if-small-p.false c.if-store-e.true

pub slice_bounds-lay_runs-end : goal.slice_bounds-lay_runs-end
slice_bounds-lay_runs-end c =
    let g = c.args in
    let w : g.free * g.n ≤ g.n * g.n = mul-le-mul c.if-n-free.false (le_refl g.n) in
    search rules

pub slice_bounds-lay_runs-end-2 : goal.slice_bounds-lay_runs-end-2
slice_bounds-lay_runs-end-2 c =
    let g = c.args in
    let w : g.free * g.n ≤ g.n * g.n = mul-le-mul c.if-n-free.false (le_refl g.n) in
    simp length-take (omega arith)

pub lay_runs-requires : goal.lay_runs-requires
lay_runs-requires c =
    let g = c.args in
    let w : g.free * g.n ≤ g.n * g.n = mul-le-mul c.if-n-free.false (le_refl g.n) in
    record { w_le_apart = search rules; w_in_bounds = search rules; dst_len = simp length-take (omega arith) }

pub offset_bounds-store-a : goal.offset_bounds-store-a
offset_bounds-store-a c =
    let g = c.args in
    let w : g.free * g.n ≤ g.n * g.n = mul-le-mul c.if-n-free.false (le_refl g.n) in
    search rules

pub slice_bounds-fill-count : goal.slice_bounds-fill-count
slice_bounds-fill-count c =
    let g = c.args in
    let w : g.free * g.n ≤ g.n * g.n = mul-le-mul c.if-n-free.false (le_refl g.n) in
    search rules

pub slice_bounds-fill-start : goal.slice_bounds-fill-start
slice_bounds-fill-start c =
    let g = c.args in
    let w : g.free * g.n ≤ g.n * g.n = mul-le-mul c.if-n-free.false (le_refl g.n) in
    search rules

pub returns : goal.returns
unfolding of_bits
returns c =
    let g = c.args in
    spread_laid
    g.n
    g.free
    g.small.now
    g.store.now
    (sym c.outside.ensures ∙ c.if-outside.false)
    (sym c.outside-2.ensures ∙ c.if-outside-2.false)
    c.if-n-free.false
    c.if-small-p.false
    _
    _
    _
    c.if-store-e.false
    c.lay_runs.ensures
    c.fill.ensures
    c.lay_runs-2.ensures
