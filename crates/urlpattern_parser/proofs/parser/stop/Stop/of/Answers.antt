use Rattle.std.proofs.Common.{◌++◌, refl, sym, ap, ◌∙◌, subst}
use Rattle.std.specs.Str.{chars}
use Rattle.urlpattern_parser.specs.declared.parser.pieces.Next.TheVariants as nexts
use Rattle.urlpattern_syntax.specs.declared.tokenizer.Token.{Token}
use Rattle.urlpattern_parser.specs.Readers.{piece_view}
use Rattle.urlpattern_syntax.specs.Pieces.{Ending as endings}
use Rattle.urlpattern_syntax.specs.Stops.{IsStopOf}
use Rattle.urlpattern_syntax.specs.Tokens.{token_view}
use Rattle.urlpattern_parser.proofs.StopLemmas.{nothing_reached, piece_reached, row_reached, stop_reached}
use Rattle.urlpattern_parser.proofs.TextReadingLemmas.{takes_as}
use Rattle.urlpattern_parser.proofs.parser.stop.Stop.of.Goals as goal

pub loop-next-init : goal.loop-next-init
loop-next-init c =
    let starts = c.in_ok-reader.ensures.starts in
    record {
      whole = starts.whole;
      stands = starts.stands;
      reached = nothing_reached (chars c.args.prefix_code_point.now) (chars c.args.input.now) c.in_ok-reader.reader starts;
    }

pub loop-next-preserved-in-Piece : goal.loop-next-preserved-in-Piece
loop-next-preserved-in-Piece c =
    let point = chars c.args.prefix_code_point.now in
    let takes = takes_as c.loop-next.reader c.next_piece.new.self c.args.prefix_code_point.now point _ (nexts.Piece c.in-Piece.field-0) refl c.in-Piece.is c.in_ok-next_piece.ensures.next in
    record {
      whole = ap chars takes.whole ∙ c.loop-next.invariant.whole;
      stands = takes.stands;
      reached = piece_reached point (chars c.args.input.now) c.loop-next.reader c.next_piece.new.self c.loop-next.invariant.reached (piece_view c.in-Piece.field-0) takes;
    }

pub loop-next-preserved : goal.loop-next-preserved
loop-next-preserved c =
    let point = chars c.args.prefix_code_point.now in
    let takes = takes_as c.loop-next.reader c.next_piece.new.self c.args.prefix_code_point.now point _ (nexts.Characters c.in-Characters.field-0 c.in-Characters.field-1) refl c.in-Characters.is c.in_ok-next_piece.ensures.next in
    record {
      whole = ap chars takes.whole ∙ c.loop-next.invariant.whole;
      stands = takes.stands;
      reached = row_reached point (chars c.args.input.now) c.loop-next.reader c.next_piece.new.self c.loop-next.invariant.reached (chars c.in-Characters.field-0.now ++ chars c.in-Characters.field-1.now) takes;
    }

pub returns-in-LacksClose-clause-stops : goal.returns-in-LacksClose-clause-stops
returns-in-LacksClose-clause-stops c =
    let point = chars c.args.prefix_code_point.now in
    let text = chars c.args.input.now in
    let takes = takes_as c.loop-next.reader c.next_piece.new.self c.args.prefix_code_point.now point _ nexts.LacksClose refl c.in-LacksClose.is c.in_ok-next_piece.ensures.next in
    subst (λ (token : Token). IsStopOf text point (token_view c.token-first.result) (token_view token)) (sym c.token-found.ensures)
    (subst (λ (token : Token). IsStopOf text point (token_view token) (token_view c.next_piece.new.self.token)) (sym c.token-first.ensures)
    (stop_reached point text c.loop-next.reader c.next_piece.new.self c.loop-next.invariant.reached endings.LacksClose (λ found. refl) takes c.in_ok-read_to_end-in-LacksClose.ensures.tokens))

pub returns-in-Stops-clause-stops : goal.returns-in-Stops-clause-stops
returns-in-Stops-clause-stops c =
    let point = chars c.args.prefix_code_point.now in
    let text = chars c.args.input.now in
    let takes = takes_as c.loop-next.reader c.next_piece.new.self c.args.prefix_code_point.now point _ nexts.Stops refl c.in-Stops.is c.in_ok-next_piece.ensures.next in
    subst (λ (token : Token). IsStopOf text point (token_view c.token-first.result) (token_view token)) (sym c.token-found-in-Stops.ensures)
    (subst (λ (token : Token). IsStopOf text point (token_view token) (token_view c.next_piece.new.self.token)) (sym c.token-first.ensures)
    (stop_reached point text c.loop-next.reader c.next_piece.new.self c.loop-next.invariant.reached endings.Stops (λ found. refl) takes c.in_ok-read_to_end-in-Stops.ensures.tokens))
