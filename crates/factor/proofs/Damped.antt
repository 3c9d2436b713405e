-- What the workings of the damped solve leave, as its definition has it. Assumes nothing.
use mathlib.Core.Path.{◌≡◌, refl, sym, ap, ◌∙◌}
use mathlib.Core.Bool.{Bool}
use mathlib.Core.List.{List, [], ◌∷◌, ◌++◌}
use Prim.Native.Nat.{ℕ, suc, ◌*◌, ◌<◌}
use native.Mathlib.Omega.{arith}
use lib.ListN.{length, take, drop, get_or, length-append, length-drop, length-replicate}
use lib.Ieee.{Float}
use Rattle.leaves.specs.Number.{plus_zero}
use Rattle.std.specs.Prelude.{Result, Ok}
use Rattle.leaves.specs.Reply.{Reply, refused, reply_of}
use Rattle.leaves.specs.declared.reply.Refusal.{Refusal}
use Rattle.leaves.proofs.Refusals.{call-worked}
use Rattle.leaves.proofs.Replies.{reply_of-ok}
use Rattle.factor.specs.Room.{Room, part, load, lay, leaving, emptied}
use Rattle.leaves.specs.Square.{uppers_of, belows_of, cleared}
use Rattle.leaves.specs.Tests.{all_finite}
use Rattle.factor.specs.Solve.{scatter, gather, damped_solved}
use Rattle.eliminate.specs.Eliminate.{Rows, damping, heads, tails}
use Rattle.eliminate.specs.Eliminated.{Eliminated, eliminated_as, eliminate_call}
use Rattle.eliminate.specs.inner.Edges.{Eliminates}
use Rattle.eliminate.proofs.Lent.{fitted, eliminates}
use Rattle.factor.specs.Solves.{damped_room, damped_numbers}
use Rattle.factor.specs.PivotOrder.{lowered}
use Rattle.factor.proofs.Layouts.{square_upper, square_of_lem, laid, load_shaped, leaving_shaped, load-lay}
use Rattle.factor.proofs.Lent.{with_square, square_lent, square_leaving}
use Rattle.factor.specs.inner.Rooms.{Sized, Shaped, with_part}

-- ---- a finite answer, and where it goes
pub finite_of : {b : Bool} {w x : List Float} → b ≡ all_finite w → w ≡ x → b ≡ all_finite x
finite_of e h = e ∙ ap all_finite h

pub scattered : (os : List ℕ) (out : List Float) {x y out' : List Float} → out' ≡ scatter os x out → x ≡ y → out' ≡ scatter os y out
scattered os out e h = e ∙ ap (λ (z : List Float). scatter os z out) h

-- ---- a store whose square was lent
pub sized_lent : (n : ℕ) (t s : List Float) → Sized n s → length t ≡ length (take (n * n) s) → Sized n (t ++ drop (n * n) s)
sized_lent n t s z e =
    let f = z.fits in
    let w = (square_of_lem n s z).whole in
    record { small = z.small; fits = simp (length-append, length-drop) (omega arith) }

-- L's diagonal written behind what elimination left, and loaded again
pub left_loaded : (n : ℕ) (s l : List Float) {s' : List Float} → Sized n s → length l ≡ n → s' ≡ lay (leaving (load n s).below l (load n s))
    → load n s' ≡ leaving (load n s).below l (load n s)
left_loaded n s l z h e =
    let r = load_shaped n s z in
    ap (λ (x : List Float). load n x) e ∙ load-lay n _ (leaving_shaped n (load n s) r (load n s).below l r.below_wide r.below_tall h)

-- ---- elimination on the lent square, with qt_b as right side
abbrev pub damping_of : ℕ → List Float → List Float → Rows
damping_of n ds s = damping ds (load n s).upper (load n s).qtb

module _ (n : ℕ) (ds s t w w' l₀ l : List Float) {d : Reply (Unit {0})} (p : (0 < n) × Sized n s) (hd : length ds ≡ n) (hl : length l₀ ≡ n)
    (e : length t ≡ length (take (n * n) s)) (q : w ≡ part n 0 s) (told : eliminated_as d t w' l ≡ eliminate_call n ds (take (n * n) s) w l₀) where
  sized : Sized n s
  sized = p.1

  right_long : length w ≡ n
  unfolding load
  right_long = ap length q ∙ (load_shaped n s sized).qtb_long

  works : Eliminates n ds (take (n * n) s) t w w' l
  works = eliminates n ds (take (n * n) s) t w w' l₀ l (square_of_lem n s sized) p.0 hd right_long hl told

  same_rows : damping ds (uppers_of n (take (n * n) s)) w ≡ damping_of n ds s
  unfolding load
  same_rows = rw (q, square_upper n s)

  below_is : belows_of n t ≡ tails (damping_of n ds s).0
  below_is = works.below ∙ ap (λ (x : Rows). tails x.0) same_rows

  diagonal_is : l ≡ heads (damping_of n ds s).0
  diagonal_is = works.diagonal ∙ ap (λ (x : Rows). heads x.0) same_rows

  right_is : w' ≡ (damping_of n ds s).1
  right_is = works.right ∙ ap (λ (x : Rows). x.1) same_rows

  -- nothing is refused
  pub eliminate_fits : (r : Result (Unit {0}) Refusal) → d ≡ reply_of r → r ≡ Ok tt
  unfolding eliminate_call
  eliminate_fits r h =
      let k = square_of_lem n s sized in
      let f = fitted n _ _ _ _ (record { sizes = record { some = p.0; few = k.small }; cells = k.whole; scales = hd; right = right_long; diagonal = hl }) in
      reply_of-ok r (sym h ∙ ap (λ (x : Eliminated). x.reply) (told ∙ sym (call-worked _ (λ (j : ℕ). eliminated_as (refused j) (take (n * n) s) w l₀) _ f)))

  -- LAW: the room that is left
  pub room_left : {s' u : List Float} → length l ≡ n → s' ≡ lay (leaving (load n u).below l (load n u)) → u ≡ t ++ drop (n * n) s → load n s' ≡ damped_room (damping_of n ds s) (load n s)
  unfolding damped_room
  room_left k g i =
      left_loaded n (t ++ drop (n * n) s) l (sized_lent n t s sized e) k (rw i at g) ∙ square_leaving n t s l sized e works.upper
      ∙ ap (λ (x : List (List Float)). leaving x l (load n s)) below_is ∙ ap (λ (x : List Float). leaving (tails (damping_of n ds s).0) x (load n s)) diagonal_is

  -- LAW: the room that is left, but for work
  pub room_lowered : (s' : List Float) {u : List Float} → load n s' ≡ with_part 2 l (load n u) → u ≡ t ++ drop (n * n) s → load n s' ≡ lowered (damping_of n ds s) (load n s)
  unfolding lowered with_part
  room_lowered s' g i =
      (rw i at g) ∙ ap (λ (r : Room). with_part 2 l r) (square_lent n t s sized e (works.upper ∙ square_upper n s) below_is)
      ∙ ap (λ (x : List Float). with_part 2 x (with_square (load n s).upper (tails (damping_of n ds s).0) (load n s))) diagonal_is

  -- LAW: and the step
  pub step_left : {u x : List Float} {ls : List (List Float)} → u ≡ t ++ drop (n * n) s → ls ≡ (load n u).below → x ≡ damped_solved l ls w' → x ≡ damped_numbers (damping_of n ds s)
  step_left i b g =
      g
      ∙ ap (λ (y : List (List Float)). damped_solved l y w') (b ∙ ap (λ (y : List Float). (load n y).below) i ∙ ap (λ (r : Room). r.below) (square_lent n t s sized e (works.upper ∙ square_upper n s) below_is))
      ∙ ap (λ (y : List Float). damped_solved y (tails (damping_of n ds s).0) w') diagonal_is
      ∙ ap (λ (y : List Float). damped_solved (heads (damping_of n ds s).0) (tails (damping_of n ds s).0) y) right_is

-- ---- 8 after elimination: emptied, it is the room from before, emptied
pub cleared-same : (xs ys : List (List Float)) → length xs ≡ length ys → ((k : ℕ) → k < length xs → length (get_or xs k []) ≡ length (get_or ys k [])) → cleared xs ≡ cleared ys
unfolding cleared
cleared-same [] [] e h = refl
cleared-same [] (y ∷ ys) e h = absurd (omega arith)
cleared-same (x ∷ xs) [] e h = absurd (omega arith)
cleared-same (x ∷ xs) (y ∷ ys) e h = rw (h 0 (omega arith), cleared-same xs ys (omega arith) (λ k l. h (suc k) (omega arith)))

pub emptied_again : (n : ℕ) (ls : List (List Float)) (l : List Float) (r : Room) → Shaped n r → Shaped n (leaving ls l r) → emptied (leaving ls l r) ≡ emptied r
unfolding leaving
emptied_again n ls l r z q =
    let w : length ls ≡ n = q.below_wide in
    let a : length ls ≡ length r.below = w ∙ sym z.below_wide in
    let b : length l ≡ length r.ldiag = q.ldiag_long ∙ sym z.ldiag_long in
    rw (cleared-same ls r.below a (λ k h. q.below_tall k (omega arith) ∙ sym (z.below_tall k (omega arith))), b, length-replicate (length r.work) plus_zero)

room_emptied : (n : ℕ) (l : Rows) (s s' : List Float) → Sized n s → Sized n s' → load n s' ≡ damped_room l (load n s) → emptied (load n s') ≡ emptied (load n s)
unfolding damped_room
room_emptied n l s s' z z' e =
    ap emptied e ∙ emptied_again n (tails l.0) (heads l.0) (load n s) (load_shaped n s z) (rw e at (load_shaped n s' z'))

-- ---- the damped solve with its diagonal in pivot order, laid out
module _ (n : ℕ) (os : List ℕ) (diag s ds s' w : List Float) (g : ds ≡ gather os diag)
    (h : load n s' ≡ damped_room (damping_of n ds s) (load n s)) (k : w ≡ damped_numbers (damping_of n ds s)) where
  step_as : w ≡ damped_numbers (damping_of n (gather os diag) s)
  step_as = k ∙ ap (λ (x : List Float). damped_numbers (damping_of n x s)) g

  room_as : load n s' ≡ damped_room (damping_of n (gather os diag) s) (load n s)
  room_as = h ∙ ap (λ (x : List Float). damped_room (damping_of n x s) (load n s)) g

  pub damped-store : s' ≡ lay (damped_room (damping_of n (gather os diag) s) (load n s))
  damped-store = laid n s' room_as

  pub damped_out : (out : List Float) {out' : List Float} → out' ≡ scatter os w out → out' ≡ scatter os (damped_numbers (damping_of n (gather os diag) s)) out
  damped_out out e = scattered os out e step_as

  pub damped_finite : {b : Bool} → b ≡ all_finite w → b ≡ all_finite (damped_numbers (damping_of n (gather os diag) s))
  damped_finite e = finite_of e step_as

  pub damped-emptied : {s'' : List Float} → Sized n s → Sized n s' → s'' ≡ lay (emptied (load n s')) → s'' ≡ lay (emptied (load n s))
  damped-emptied z z' e = e ∙ ap lay (room_emptied n (damping_of n (gather os diag) s) s s' z z' room_as)
