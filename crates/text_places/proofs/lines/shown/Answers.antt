use Rattle.text_places.proofs.Around.{around, displayed}
use Rattle.text_places.proofs.lines.shown.Goals as goal

pub returns : goal.returns
returns c = (
  around c.args.text.now c.args.offset _ _ c.line_of-line.ensures,
  c.place_in.ensures.line,
  c.place_in.ensures.column,
  displayed c.args.text.now c.args.offset _ _ c.line_of-line.ensures _ c.in_ok-lines_of.ensures,
)
