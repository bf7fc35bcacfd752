-- The rows of tests stand in the one order of `refusal`. (A lookup's does not: 15 and 16 of the override come before the main file's.) Assumes nothing.
use mathlib.Core.Path.{◌≡◌, refl}
use mathlib.Core.Bool.{true}
use mathlib.Core.List.{List}
use Prim.Native.Nat.{ℕ}
use Rattle.refusal.specs.Order.{in_order, is_from, from, any}
use Rattle.catalogue_fits.specs.Tests.{check_tests, latest_tests, given_tests, add_tests, drop_tests, import_tests, export_tests}

checks : (file : List ℕ) → in_order (check_tests file) ≡ true
unfolding is_from from any
checks file = refl

latests : (file : List ℕ) (a : ℕ) → in_order (latest_tests file a) ≡ true
unfolding is_from from any
latests file a = refl

givens : (file : List ℕ) (a n : ℕ) → in_order (given_tests file a n) ≡ true
unfolding is_from from any
givens file a n = refl

adds : (area : ℕ) (file image : List ℕ) → in_order (add_tests area file image) ≡ true
unfolding is_from from any
adds area file image = refl

drops : (area : ℕ) (file : List ℕ) (a : ℕ) → in_order (drop_tests area file a) ≡ true
unfolding is_from from any
drops area file a = refl

imports : (area : ℕ) (row : List ℕ) → in_order (import_tests area row) ≡ true
unfolding is_from from any
imports area row = refl

exports : (area : ℕ) (file : List ℕ) → in_order (export_tests area file) ≡ true
unfolding is_from from any
exports area file = refl
