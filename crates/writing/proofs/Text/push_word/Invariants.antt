-- The loop's invariant: the word's first bytes are joined to the text.
use Rattle.std.proofs.Common.{◌≡◌, take}
use Rattle.writing.specs.Texts.{joined}
use Rattle.writing.proofs.Text.push_word.Given as goal

abbrev pub invariant-loop-byte : goal.invariant-loop-byte
invariant-loop-byte l = l.self ≡ joined l.initial.self (take l.byte-index l.word)
