use Rattle.std.proofs.Common.{sym, ◌∙◌, subst, inr}
use Rattle.std.specs.Io.KnownBytes.{Consumes}
use Rattle.psfont_session.specs.Piece.{spent}
use Rattle.psfont_session.proofs.look.Goals as goal

pub returns-in_ok-flush_before_waiting-in-Line-clause-told :
    goal.returns-in_ok-flush_before_waiting-in-Line-clause-told
returns-in_ok-flush_before_waiting-in-Line-clause-told g c =
    let moved = c.in_ok-read_piece.ensures.moved in
    let line = c.as_slice.ensures.value ∙ moved.1 in
    inr (record {
      bytes = moved.0;
      free = moved.2;
      spent = subst (λ piece. Consumes (g.R.Read.remaining c.args.reader.now) (g.R.Read.remaining c.read_piece.new.reader)
          (spent piece moved.0)) c.in-Line.is moved.3;
      text = c.without_return-text.result.now;
      is_text = (
        λ front is. c.without_return-text.ensures.dropped front (line ∙ is),
        λ none. c.without_return-text.ensures.kept (λ front is. none front (sym line ∙ is)) ∙ line,
      );
      written = g.W.Write.contents c.tell_line.new.writer;
      told = c.in_ok-tell_line-in-Line.ensures.told;
      kept = c.flush_before_waiting.ensures.kept;
      line = c.clear.ensures.items;
    })
