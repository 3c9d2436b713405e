-- What the parts of the reduction hand each other. No public contract cites these: what is promised stands in `Reduced`.
use Rattle.std.specs.Prelude.{ℕ, suc, ◌*◌, ◌≤◌, ◌≡◌, Bool, List, [], map, length, take, drop, get_or, set, Float}
use Rattle.std.specs.Float.{nan, binary64}
use Rattle.std.specs.Float.Ieee.{div, mul, neg, le}
use Rattle.leaves.specs.Number.{square_of, epsmch}
use Rattle.leaves.specs.Norm.{norm, ranges_of}
use Rattle.leaves.specs.declared.norm.Ranges.{Ranges}
use Rattle.leaves.specs.Reply.{Reply, answered}
use Rattle.leaves.specs.Triangle.{columns}
use Rattle.leaves.specs.Loop.{between}
use Rattle.reduce.specs.Reduction.{Reduction, reduction, swap, with_diag, with_rhs, reflect_from, later, renewed, twentieth, reduction_of, remeasured, measured}

-- the bench by columns: the Jacobian's n, and the residuals as one more
abbrev pub grid : ℕ → ℕ → List Float → List (List Float)
grid m n bench = columns m (suc n) bench

pub record Benched (m n : ℕ) (bench : List Float) : Type 0 where
  pub rows : m ≤ 128
  pub across : n ≤ 16
  pub whole : length bench ≡ suc n * m

-- a factoring under way, as it stands in the bench, two vectors and the order list
abbrev pub under_way : ℕ → ℕ → List Float → List Float → List Float → List ℕ → Reduction
under_way m n bench diag work order = reduction (take n (grid m n bench)) diag work order (get_or (grid m n bench) n [])

-- a column divided by its signed norm
abbrev pub divided : Float → List Float → List Float
divided t c = map (λ x. div binary64 x t) c

-- r_diag and work at column k, later than j, once its reflection has made it what it is
unfoldable pub renewing : ℕ → ℕ → Reduction → Reduction
renewing j k r =
    let c = get_or r.cols k [] in
    let p = renewed (get_or r.diag k nan) (get_or r.work k nan) (get_or c j nan) (norm (drop (suc j) c)) in
    reduction r.cols (set r.diag k p.0) (set r.work k p.1) r.order r.rhs

-- and which vector is measured for it
unfoldable pub measured_renewing : ℕ → ℕ → Reduction → List (List Float)
measured_renewing j k r = let c = get_or r.cols k [] in remeasured (get_or r.diag k nan) (get_or r.work k nan) (get_or c j nan) (drop (suc j) c)

-- place k of r_diag and work as place j has it, and entries j and k of the order exchanged
unfoldable pub moved : ℕ → ℕ → Reduction → Reduction
moved j k r = reduction r.cols (set r.diag k (get_or r.diag j nan)) (set r.work k (get_or r.work j nan)) (swap 0 j k r.order) r.rhs

-- whether a partial norm s, whose last anew was w, has lost too much
abbrev pub stale : Float → Float → Bool
stale s w = le (mul binary64 twentieth (square_of (div binary64 s w))) epsmch

-- the later columns and the residuals reflected along a given axis, whose column has the signed norm t
unfoldable pub swept : ℕ → ℕ → Float → List Float → Reduction → Reduction
swept n j t axis r = with_rhs (reflect_from j axis r.rhs) (between (later j axis) (suc j) n (with_diag j (neg t) r))

-- what a reduction of m rows and n columns answers, and leaves in the vectors, the order list and the bench that were lent to it
pub record Reduces (m n : ℕ) (jac res : List Float) (r : Reply Ranges) (v d : List Float) (o : List ℕ) (b : List Float) : Type 0 where
  pub reply : r ≡ answered (ranges_of (measured m n (columns m n jac) res))
  pub norms : v ≡ map norm (columns m n jac)
  pub cols : take n (grid m n b) ≡ (reduction_of m n (columns m n jac) res).cols
  pub rhs : get_or (grid m n b) n [] ≡ (reduction_of m n (columns m n jac) res).rhs
  pub diag : d ≡ (reduction_of m n (columns m n jac) res).diag
  pub order : o ≡ (reduction_of m n (columns m n jac) res).order
