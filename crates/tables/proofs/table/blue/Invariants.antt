-- After n turns the first n words are made.
use Rattle.circuit.specs.declared.Colour.TheVariants.{Blue}
use Rattle.tables.specs.Table.{seen_from}
use Rattle.tables.proofs.TableWords.{Made}
use Rattle.tables.proofs.table.blue.Given as goal

abbrev pub invariant-loop-n : goal.invariant-loop-n
invariant-loop-n l = Made (seen_from Blue) l.words l.word-items l.n
