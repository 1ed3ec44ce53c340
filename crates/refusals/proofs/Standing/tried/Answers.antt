-- The row of a form tells of what was typed, and the row of a refusal is its number.
use Rattle.std.proofs.Common.{refl, ap, sym, ◌∙◌, arith}
use Rattle.lines.specs.Readings.{reading_of}
use Rattle.lines.proofs.Readings.{refused_among}
use Rattle.rows.specs.Rows.{held_row}
use Rattle.refusals.specs.Refusals.{refusal_by}
use Rattle.refusals.proofs.RowsHeld.{row_of_form, row_refused, met_colours, places_told}
use Rattle.refusals.proofs.Standing.tried.Goals as goal

pub returns-in-Ok : goal.returns-in-Ok
unfolding refusal_by
returns-in-Ok c =
    let l = c.args.line.now in
    let s = c.args.self.now in
    let found = row_of_form l (reading_of l) refl c.in-Ok.row (ap held_row (sym c.requires) ∙ sym c.row_of.ensures ∙ c.in-Ok.is) in
    rw found.1
    (c.places.ensures (met_colours l found.0 c.in-Ok.row found.2) ∙ places_told l found.0 c.in-Ok.row found.2 s.loaded s.summing _ s.room s.held (omega arith))

pub of_reading-requires : goal.of_reading-requires
of_reading-requires c =
    let l = c.args.line.now in
    refused_among l _ (row_refused l (reading_of l) refl _ (ap held_row (sym c.requires) ∙ sym c.row_of.ensures ∙ c.in-Err.is))

pub returns-in-Err : goal.returns-in-Err
unfolding refusal_by
returns-in-Err c =
    let l = c.args.line.now in
    rw (row_refused l (reading_of l) refl _ (ap held_row (sym c.requires) ∙ sym c.row_of.ensures ∙ c.in-Err.is)) c.of_reading.ensures
