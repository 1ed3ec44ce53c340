-- A term as it is listed has its colours in order, whatever the term.
use mathlib.Core.Path.{◌≡◌, refl}
use mathlib.Core.Bool.{true}
use Prim.Native.Nat.{ℕ, zero, suc}
use lib.Dec.{ltb}
use Rattle.circuit.specs.declared.Colour.{Colour}
use Rattle.circuit.specs.declared.Colour.TheVariants.{Red, Blue, Green}
use Rattle.circuit.specs.Colours.{number_of}
use Rattle.circuit.specs.Layers.{spot}
use Rattle.listing.specs.Listing.{gate_of_two, gate_of_term}
use Rattle.listing.specs.Order.{is_written}

written_two : (C D : Colour) (i j : ℕ) → ltb (number_of C) (number_of D) ≡ true → is_written (gate_of_two C i D j) ≡ true
unfolding is_written gate_of_two spot
written_two C D zero j e = refl
written_two C D (suc i) zero e = refl
written_two C D (suc i) (suc j) e = e

pub written_line : (i j k : ℕ) → is_written (gate_of_term i j k) ≡ true
unfolding is_written gate_of_term
written_line zero j k = written_two Blue Green j k refl
written_line (suc i) zero k = written_two Red Green (suc i) k refl
written_line (suc i) (suc j) zero = written_two Red Blue (suc i) (suc j) refl
written_line (suc i) (suc j) (suc k) = refl
