-- 01, modules 2 and 3: factoring with column pivoting, and the transformed residuals.
use Rattle.std.specs.Prelude.{ℕ, suc, ◌+◌, min, false, cond, List, [], ◌∷◌, ◌++◌, map, eqb, length, take, drop, get_or, set, Float}
use Rattle.std.specs.Float.{nan, binary64}
use Rattle.std.specs.Float.Ieee.{add, sub, mul, div, neg, eq, le, round}
use Rattle.leaves.specs.Number.{plus_zero, one, is_negative, max_of, square_of, epsmch}
use Rattle.leaves.specs.Vector.{dot_of, axpy_all, imax_of}
use Rattle.leaves.specs.Norm.{norm}
use Rattle.leaves.specs.Root.{root_s}
use Rattle.leaves.specs.Loop.{upto, between, along, along_between, count_from}

-- a factoring under way: the columns as they stand, R's diagonal and the norms it is measured against, the order, the residuals
pub record Reduction : Type 0 where
  pub cols : List (List Float)
  pub diag : List Float
  pub work : List Float
  pub order : List ℕ
  pub rhs : List Float

abbrev pub reduction : List (List Float) → List Float → List Float → List ℕ → List Float → Reduction
reduction cols diag work order rhs = record { cols = cols; diag = diag; work = work; order = order; rhs = rhs }

-- places j and k exchanged
unfoldable pub swap : {A : Type 0} → A → ℕ → ℕ → List A → List A
swap d j k l = set (set l j (get_or l k d)) k (get_or l j d)

-- A swap moves column, order entry, r_diag and work as shown: place k of r_diag and work gets what place j had.
unfoldable pub pivoted : ℕ → Reduction → Reduction
pivoted j r =
    let k = j + imax_of (drop j r.diag) in
    cond (eqb k j)
    r
    (reduction (swap [] j k r.cols) (set r.diag k (get_or r.diag j nan)) (set r.work k (get_or r.work j nan)) (swap 0 j k r.order) r.rhs)

-- the axis of a reflection: the column divided by its signed norm, and 1 added to its first place
unfoldable pub axis_by : Float → List Float → List Float
axis_by t c = let q = map (λ x. div binary64 x t) c in set q 0 (add binary64 (get_or q 0 nan) one)

-- a column less its share along the axis
unfoldable pub reflect : List Float → List Float → List Float
reflect axis c = axpy_all (neg (div binary64 (dot_of c axis) (get_or axis 0 nan))) axis c

-- Each reflection works on the lower end of a column, from row j on.
unfoldable pub reflect_from : ℕ → List Float → List Float → List Float
reflect_from j axis c = take j c ++ reflect axis (drop j c)

-- a column's partial norm d after row x of it has gone to R
unfoldable pub shrunk : Float → Float → Float
shrunk d x = mul binary64 d (root_s (max_of (sub binary64 one (square_of (div binary64 x d))) plus_zero))

-- 0.05, as the double nearest to it
unfoldable pub twentieth : Float
twentieth = round binary64 false 5 100

-- A column's partial norm is worked out anew when 0.05·(r_diag/work)² ≤ epsmch. A norm of zero stays.
unfoldable pub renewed : Float → Float → Float → Float → Float × Float
renewed d w x anew =
    cond (eq d plus_zero)
    (d, w)
    (let s = shrunk d x in
    cond (le (mul binary64 twentieth (square_of (div binary64 s w))) epsmch) (anew, anew) (s, w))

-- column k, later than j: reflected, and its norm renewed
unfoldable pub later : ℕ → List Float → ℕ → Reduction → Reduction
later j axis k r =
    let c = reflect_from j axis (get_or r.cols k []) in
    let p = renewed (get_or r.diag k nan) (get_or r.work k nan) (get_or c j nan) (norm (drop (suc j) c)) in
    reduction (set r.cols k c) (set r.diag k p.0) (set r.work k p.1) r.order r.rhs

abbrev pub with_diag : ℕ → Float → Reduction → Reduction
with_diag j d r = reduction r.cols (set r.diag j d) r.work r.order r.rhs

abbrev pub with_rhs : List Float → Reduction → Reduction
with_rhs b r = reduction r.cols r.diag r.work r.order b

-- the norm s of a column with the sign of its first place
unfoldable pub signed : Float → List Float → Float
signed s c = cond (is_negative (get_or c 0 nan)) (neg s) s

-- the reflection of column j, whose norm from row j on is s: the later columns, and the residuals
unfoldable pub reflected : ℕ → ℕ → Float → Reduction → Reduction
reflected n j s r =
    let c = drop j (get_or r.cols j []) in
    let axis = axis_by (signed s c) c in
    with_rhs (reflect_from j axis r.rhs) (between (later j axis) (suc j) n (with_diag j (neg (signed s c)) r))

-- A zero reduced norm sets r_diag 0 and skips the reflection.
unfoldable pub reduced : ℕ → ℕ → Reduction → Reduction
reduced n j r =
    let p = pivoted j r in
    let s = norm (drop j (get_or p.cols j [])) in
    cond (eq s plus_zero) (with_diag j plus_zero p) (reflected n j s p)

unfoldable pub start : List (List Float) → List Float → Reduction
start cols residuals = reduction cols (map norm cols) (map norm cols) (count_from (length cols) 0) residuals

unfoldable pub reduction_of : ℕ → ℕ → List (List Float) → List Float → Reduction
reduction_of m n cols residuals = upto (reduced n) (min m n) (start cols residuals)

-- ---- 02, #106: the vectors whose norms a factoring works out, in their order
-- a later column's rest only where its norm is worked out anew, which is where `renewed` takes it
unfoldable pub remeasured : Float → Float → Float → List Float → List (List Float)
remeasured d w x rest =
    cond (eq d plus_zero)
    []
    (cond (le (mul binary64 twentieth (square_of (div binary64 (shrunk d x) w))) epsmch) (rest ∷ []) [])

-- of column k, later than j
unfoldable pub measured_later : ℕ → List Float → ℕ → Reduction → List (List Float)
measured_later j axis k r =
    let c = reflect_from j axis (get_or r.cols k []) in
    remeasured (get_or r.diag k nan) (get_or r.work k nan) (get_or c j nan) (drop (suc j) c)

-- of all later columns, by the reflection of column j, whose norm from row j on is s
unfoldable pub measured_reflected : ℕ → ℕ → Float → Reduction → List (List Float)
measured_reflected n j s r =
    let c = drop j (get_or r.cols j []) in
    let axis = axis_by (signed s c) c in
    along_between (measured_later j axis) (later j axis) (suc j) n (with_diag j (neg (signed s c)) r)

-- at each j the pivot column from row j on, and then the later columns
unfoldable pub measured_at : ℕ → ℕ → Reduction → List (List Float)
measured_at n j r =
    let p = pivoted j r in
    let c = drop j (get_or p.cols j []) in
    c ∷ cond (eq (norm c) plus_zero) [] (measured_reflected n j (norm c) p)

-- each column, and then what each step measures
unfoldable pub measured : ℕ → ℕ → List (List Float) → List Float → List (List Float)
measured m n cols residuals = cols ++ along (measured_at n) (reduced n) (min m n) (start cols residuals)
