-- One name for every definition of the leaves, so that a table of examples says `unfolding opened` and computes with them.
use Rattle.std.specs.Float.Ieee.{is_nan, eq, ne, lt, le, add, sub, mul, div, neg, of_int, of_bits, round}
use Rattle.leaves.specs.Number.{is_negative, is_finite, abs_of, max_of, min_of, square_of, epsmch, dwarf}
use Rattle.leaves.specs.Vector.{dot_from, dot, axpy_all, axpy, scale_all, axpy_zero, imax_from, imax, copy}
use Rattle.leaves.specs.Triangle.{columns, solve_place, solve_down, solve_upper}
use Rattle.leaves.specs.Root.{root_s}
use Rattle.leaves.specs.Norm.{rdwarf, rgiant, agiant, middle, small, large, add_in, accumulate, finish_large, finish_middle, finish_small, finish, norm, is_small, is_large, any, ranges, ranges_of, enorm}
use Rattle.leaves.specs.Product.{product_all}
use Rattle.leaves.specs.Loop.{upto, between, along, along_between, count_from}
use Rattle.leaves.specs.Square.{uppers_from, belows_from, joined, diagonal_from, cleared}
use Rattle.leaves.specs.Tests.{first_of, outside, all_finite, none_zero}

unfoldable pub opened : Unit {0}
unfolding is_nan eq ne lt le add sub mul div neg of_int of_bits round is_negative is_finite abs_of max_of min_of square_of epsmch dwarf dot_from dot axpy_all axpy scale_all axpy_zero imax_from imax copy columns solve_place solve_down solve_upper root_s rdwarf rgiant agiant middle small large add_in accumulate finish_large finish_middle finish_small finish norm is_small is_large any ranges ranges_of enorm product_all upto between along along_between count_from uppers_from belows_from joined diagonal_from cleared first_of outside all_finite none_zero
opened = tt
