-- Which of the system's errors are transient: std's table of their kinds has the two kinds at 4 and at 11, and nowhere else.
use Rattle.std.proofs.Common.{◌≡◌, ℕ, refl, ap, ◌∙◌, List, [], ◌∷◌, arith}
use Rattle.std.specs.Prelude.{Bool, true, false, ◌&&◌, ◌||◌, not, cond, eqb, ℤ, pos, negsuc, int_lt}
use Rattle.std_io.specs.IoError.{os_error_kinds, kind_in, os_error_kind}
use Rattle.std_io.specs.declared.io.kind.ErrorKind.{ErrorKind}
use Rattle.std_io.specs.declared.io.kind.ErrorKind.TheVariants.{Uncategorized}
use Rattle.streams.specs.Streams.{error_is, transient_kind}

-- The rows with a kind of which f holds have the numbers 4 and 11.
abbrev told : Bool → ℕ → Bool
told holds n = not holds || (eqb n 4 || eqb n 11)

all_told : (ErrorKind → Bool) → List (ℕ × ErrorKind) → Bool
all_told f [] = true
all_told f (row ∷ rows) = told (f row.1) row.0 && all_told f rows

first_told : (a b : Bool) → a && b ≡ true → (a ≡ true) × (b ≡ true)
first_told a b e = grind arith

other_number : (holds : Bool) (n k : ℕ) → told holds k ≡ true → eqb n k ≡ true → eqb n 4 ≡ false → eqb n 11 ≡ false → holds ≡ false
other_number false n k known is not_4 not_11 = refl
other_number true n k known is not_4 not_11 = grind arith

other_kinds : (f : ErrorKind → Bool) (rows : List (ℕ × ErrorKind)) (n : ℕ) → f Uncategorized ≡ false → all_told f rows ≡ true → eqb n 4 ≡ false → eqb n 11 ≡ false
    → f (kind_in rows n) ≡ false
unfolding all_told
other_kinds f [] n none known not_4 not_11 = none
other_kinds f (row ∷ rows) n none known not_4 not_11 =
    let both = first_told (told (f row.1) row.0) (all_told f rows) known in
    go (eqb n row.0) refl both.0 (other_kinds f rows n none both.1 not_4 not_11)
  where
    go : (e : Bool) → eqb n row.0 ≡ e → told (f row.1) row.0 ≡ true → f (kind_in rows n) ≡ false → f (cond e row.1 (kind_in rows n)) ≡ false
    go true is first rest = other_number (f row.1) n row.0 first is not_4 not_11
    go false is first rest = rest

of_number : (n : ℕ) (a b : Bool) → eqb n 4 ≡ a → eqb n 11 ≡ b → transient_kind (kind_in os_error_kinds n) ≡ (a || b)
unfolding all_told
of_number n true b is_4 is_11 = let same : n ≡ 4 = grind arith in rw same refl
of_number n false true is_4 is_11 = let same : n ≡ 11 = grind arith in rw same refl
of_number n false false is_4 is_11 = other_kinds transient_kind os_error_kinds n refl refl is_4 is_11

none_below : (n : ℕ) → int_lt (pos n) (pos 0) ≡ false
none_below n = grind arith

kind_of : (n : ℕ) → os_error_kind (pos n) ≡ kind_in os_error_kinds n
unfolding os_error_kind
kind_of n = rw (none_below n) refl

pub transient_numbers : (code : ℤ) → transient_kind (os_error_kind code) ≡ (error_is 4 code || error_is 11 code)
unfolding os_error_kind error_is
transient_numbers (negsuc n) = refl
transient_numbers (pos n) = ap transient_kind (kind_of n) ∙ of_number n (eqb n 4) (eqb n 11) refl refl
