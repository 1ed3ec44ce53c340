-- The number of each refusal (Manual 7.1).
use Rattle.std.specs.Prelude.{ℕ}
use Rattle.text.specs.declared.Refusal.{Refusal}

abbrev pub number_of : Refusal → ℕ
number_of Refusal.Buffer = 1
number_of Refusal.Length = 2
number_of Refusal.Byte = 3
number_of Refusal.NoForm = 4
number_of Refusal.ColourTwice = 5
number_of Refusal.NoCircuit = 6
number_of Refusal.SumOpen = 7
number_of Refusal.NoSum = 8
number_of Refusal.OutOfRange = 9
number_of Refusal.OnItself = 10
number_of Refusal.WrongLength = 11
number_of Refusal.NotHeld = 12
number_of Refusal.NoRoom = 13
number_of Refusal.UsedTwice = 14
