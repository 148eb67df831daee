-- Worked examples of texts that are read, and of texts that are rejected.
use Rattle.std.proofs.Common.{◌≡◌, ◌≢◌, ℕ, zero, suc, List, [], ◌∷◌, ◌++◌, take, drop, refl, arith, inl, inr, lit<, Some, None, Ok, Err, Contains, if◌then◌else◌}
use Rattle.std.specs.Fmt.{digits}
use Rattle.std.specs.Prelude.{codes, bytes_eq}
use Rattle.url.specs.declared.error.ParseError.TheVariants.{InvalidPort}
use Rattle.urlpattern_syntax.specs.declared.parser.PartModifier.TheVariants as modifiers
use Rattle.urlpattern_syntax.specs.declared.parser.PartType.TheVariants.{SegmentWildcard, FullWildcard}
use Rattle.urlpattern_syntax.specs.declared.parser.PartType.TheVariants as kinds
use Rattle.urlpattern_syntax.specs.declared.tokenizer.TokenType.TheVariants.{Asterisk, Char, Close, End, EscapedChar, Name, Open, OtherModifier, Regexp}
use Rattle.urlpattern_syntax.specs.Errors.{ErrorView, ErrorView as views}
use Rattle.urlpattern_syntax.specs.Options.{OptionsView, default_options, pathname_options}
use Rattle.urlpattern_syntax.specs.Parts.{PartView, fixed_text}
use Rattle.urlpattern_syntax.specs.Pieces.{Piece, Text, Bare, TextGroup, Group, Placeholder, PlaceholderKindView, Segment, Custom, Ending, Stops, LacksClose}
use Rattle.urlpattern_syntax.specs.Reading.{AreMet, AreParts, Encoding, FirstFails, Reads, Rejects, demands, items_of}
use Rattle.urlpattern_syntax.specs.RegexpText.{escaped}
use Rattle.urlpattern_syntax.specs.Tokens.{TokenView, AreTokens, InvalidName, Nothing, Plain, IsRegexpBody, end_of}
use Rattle.urlpattern_syntax.proofs.PieceExamples.{PieceCut, ends, piece, pieces_of, bare, braced, filled, starred_cut, starred_pieces, nested}
use Rattle.urlpattern_syntax.proofs.RegexpTextExamples.{ecma_pathname_options, group}
use Rattle.urlpattern_syntax.proofs.TokenExamples.{Cut, done, next, cut_of, literals, token, no, char, mark, escaped_char, name, regexp, users_tokens, custom_tokens, empty}

-- ---- steps

-- A text has these tokens, and then End.
pub tokens_of : {text : List ℕ} (front : List TokenView) → Cut text [] text front → AreTokens text (front ++ end_of text ∷ [])
tokens_of front cut = record { front = front; cut = cut_of cut; all = refl }

-- A text reads as these parts, by its tokens and by its pieces, whose demands are met.
pub read_by : {text : List ℕ} {options : OptionsView} {encoding : Encoding} {parts : List PartView} {tokens : List TokenView} (pieces : List Piece)
    (found : TokenView) → AreTokens text tokens → PieceCut options.prefix (Stops found) tokens pieces → AreMet encoding (demands (items_of pieces) (Stops found))
    → AreParts options encoding (items_of pieces) parts → Reads text options encoding parts
read_by pieces found are_tokens cut met are_parts = record {
  tokens = _;
  pieces = pieces;
  found = found;
  are_tokens = are_tokens;
  are_pieces = pieces_of cut;
  are_met = met;
  are_parts = are_parts;
}

-- A text is rejected with the error of the first demand that fails.
pub refused_by : {text : List ℕ} {options : OptionsView} {encoding : Encoding} {error : ErrorView} {tokens : List TokenView} (pieces : List Piece)
    (ending : Ending) → AreTokens text tokens → PieceCut options.prefix ending tokens pieces → FirstFails encoding (demands (items_of pieces) ending) error
    → Rejects text options encoding error
refused_by pieces ending are_tokens cut fails =
    inr (record { tokens = _; pieces = pieces; ending = ending; are_tokens = are_tokens; are_pieces = pieces_of cut; fails = fails })

-- ---- words

-- The encoding that keeps each text.
abbrev pub keeping : Encoding
keeping text answer = answer ≡ Ok text

-- An encoding that rejects each text.
abbrev pub refusing : Encoding
refusing text answer = answer ≡ Err (views.Url InvalidPort)

-- A segment with a name.
abbrev pub named : List ℕ → Placeholder
named name = record { name = Some name; matched = Segment }

-- A placeholder without a name.
abbrev pub unnamed : PlaceholderKindView → Placeholder
unnamed matched = record { name = None; matched = matched }

-- The first name is new.
pub first_name : {name : List ℕ} → ¬ Contains [] name
first_name h = omega (arith, h.1)

-- A second name that differs from the first is new.
pub other_name : {earlier name : List ℕ} → earlier ≢ name → ¬ Contains (earlier ∷ []) name
other_name differs (zero, below, same) = differs same
other_name differs (suc k, below, same) = omega (arith, below)

-- An escaped character is no prefix.
not_char : EscapedChar ≢ Char
not_char e = cc

-- ---- texts that are read

-- The pattern `{a/:x/b}+`: one part, with the texts on both sides.
abbrev pub joined_front : List TokenView
joined_front =
    token Open 0 (codes "{") ∷ token Char 1 (codes "a") ∷ token Char 2 (codes "/") ∷ token Name 3 (codes "x")
    ∷ token Char 5 (codes "/") ∷ token Char 6 (codes "b") ∷ token Close 7 (codes "}")
    ∷ token OtherModifier 8 (codes "+") ∷ []

pub joined : Reads (codes "{a/:x/b}+") pathname_options keeping (group SegmentWildcard (codes "a/") (codes "x") (codes "/b") modifiers.OneOrMore ∷ [])
unfolding escaped literals
joined =
    read_by (Group (codes "a/") (named (codes "x")) (codes "/b") modifiers.OneOrMore ∷ []) (token End 9 [])
    (tokens_of joined_front (next (mark (refl, refl) tt refl) (next (char refl refl refl) (next (char refl refl refl)
    (next (name (codes "x") (refl, refl) no refl) (next (char refl refl refl) (next (char refl refl refl)
    (next (mark (refl, refl) tt refl) (next (mark (refl, inl refl) tt refl) done)))))))))
    (piece 8 (
      take 5 (drop 1 joined_front),
      braced (token Open 0 (codes "{")) (token Close 7 (codes "}")) (token OtherModifier 8 (codes "+") ∷ []) refl refl refl (refl, refl) tt,
      filled 2 1 (refl, refl) (refl, refl) no (refl, refl),
    ) (ends (_, refl, refl)))
    (first_name, ((_, refl), ((_, refl), (refl, tt)))) (codes "a/", codes "/b", [], refl, refl, refl, refl)

-- The pattern `a{}?b`: an empty group with a modifier makes no part, and keeps the texts apart.
abbrev pub apart_front : List TokenView
apart_front =
    token Char 0 (codes "a") ∷ token Open 1 (codes "{") ∷ token Close 2 (codes "}")
    ∷ token OtherModifier 3 (codes "?") ∷ token Char 4 (codes "b") ∷ []

pub apart_tokens : AreTokens (codes "a{}?b") (apart_front ++ token End 5 [] ∷ [])
unfolding literals
apart_tokens =
    tokens_of apart_front (next (char refl refl refl) (next (mark (refl, refl) tt refl) (next (mark (refl, refl) tt refl)
    (next (mark (refl, inr refl) tt refl) (next (char refl refl refl) done)))))

abbrev pub apart_pieces : List Piece
apart_pieces = Text (codes "a") ∷ TextGroup [] modifiers.Optional ∷ Text (codes "b") ∷ []

pub apart_cut : PieceCut [] (Stops (token End 5 [])) (apart_front ++ token End 5 [] ∷ []) apart_pieces
apart_cut =
    piece 1 (_, refl, refl, refl, λ k v. no) (piece 3 (
      [],
      braced (token Open 1 (codes "{")) (token Close 2 (codes "}")) (token OtherModifier 3 (codes "?") ∷ []) refl refl refl (refl, refl) tt,
      (refl, refl),
    ) (piece 1 (_, refl, refl, refl, λ k v. no) (ends (_, refl, refl))))

pub apart : Reads (codes "a{}?b") default_options keeping (fixed_text (codes "a") modifiers.None ∷ fixed_text (codes "b") modifiers.None ∷ [])
apart =
    read_by apart_pieces (token End 5 []) apart_tokens apart_cut ((_, refl), ((_, refl), (refl, tt)))
    (codes "a", fixed_text (codes "b") modifiers.None ∷ [], refl, refl, (codes "b", [], refl, refl, refl))

-- The body `[^/]+?` has only plain characters.
pub segment_body : IsRegexpBody (codes "[^/]+?")
segment_body = record {
  body = Plain _ (Plain _ (Plain _ (Plain _ (Plain _ (Plain _ Nothing)))));
  is_body = (lit< tt, no, (lit< tt, no, (lit< tt, no, (lit< tt, no, (lit< tt, no, (lit< tt, no, tt))))));
  spelled = refl;
  not_empty = λ e. cc;
  not_marked = no;
}

-- The pattern `([^/]+?)` of a pathname: its tokens and its piece.
abbrev pub segment_tokens : List TokenView
segment_tokens = token Regexp 0 (codes "[^/]+?") ∷ token End 8 [] ∷ []

pub are_segment_tokens : AreTokens (codes "([^/]+?)") segment_tokens
unfolding literals
are_segment_tokens = tokens_of (token Regexp 0 (codes "[^/]+?") ∷ []) (next (regexp (codes "[^/]+?") segment_body refl) done)

abbrev pub segment_pieces : List Piece
segment_pieces = Bare [] (unnamed (Custom (codes "[^/]+?"))) modifiers.None ∷ []

pub segment_cut : PieceCut (codes "/") (Stops (token End 8 [])) segment_tokens segment_pieces
segment_cut = piece 1 (bare 0 1 (inl (refl, refl)) (refl, refl) refl tt no) (ends (_, refl, refl))

-- The pattern `([^/]+?)` of a pathname: the expression of a segment makes a segment, with a number
-- as its name.
pub segment : Reads (codes "([^/]+?)") pathname_options keeping (group SegmentWildcard [] (codes "0") [] modifiers.None ∷ [])
unfolding escaped digits
segment =
    read_by segment_pieces (token End 8 []) are_segment_tokens segment_cut (first_name, ((_, refl), ((_, refl), (refl, tt))))
    ([], [], [], refl, refl, refl, refl)

-- The pattern `([^/]+?)` in ECMAScript's syntax, where the expression of a segment is another: a
-- custom regular expression.
pub segment_ecma : Reads (codes "([^/]+?)") ecma_pathname_options keeping (
    record { kind = kinds.Regexp; value = codes "[^/]+?"; modifier = modifiers.None; name = codes "0"; prefix = []; suffix = [] } ∷ [])
unfolding escaped digits
segment_ecma =
    read_by segment_pieces (token End 8 []) are_segment_tokens segment_cut (first_name, ((_, refl), ((_, refl), (refl, tt))))
    ([], [], [], refl, refl, refl, refl)

-- The pattern `:x**`: a segment that may occur any number of times, and a full wildcard with a
-- number as its name.
pub starred_read : Reads (codes ":x**") default_options keeping (
    group SegmentWildcard [] (codes "x") [] modifiers.ZeroOrMore ∷ group FullWildcard [] (codes "0") [] modifiers.None ∷ [])
unfolding digits literals
starred_read =
    read_by starred_pieces (token End 4 [])
    (tokens_of (token Name 0 (codes "x") ∷ token Asterisk 2 (codes "*") ∷ token Asterisk 3 (codes "*") ∷ [])
    (next (name (codes "x") (refl, refl) no refl) (next (mark (refl, refl) tt refl) (next (mark (refl, refl) tt refl) done))))
    starred_cut (first_name, ((_, refl), ((_, refl), (other_name (λ e. cc), ((_, refl), ((_, refl), (refl, tt)))))))
    ([], [], _, refl, refl, refl, ([], [], [], refl, refl, refl, refl))

-- The pattern `\/:x` of a pathname: an escaped slash is no prefix.
pub escaped_slash : Reads (codes "\\/:x") pathname_options keeping (
    fixed_text (codes "/") modifiers.None ∷ group SegmentWildcard [] (codes "x") [] modifiers.None ∷ [])
unfolding escaped literals
escaped_slash =
    read_by (Text (codes "/") ∷ Bare [] (named (codes "x")) modifiers.None ∷ []) (token End 4 [])
    (tokens_of (token EscapedChar 0 (codes "/") ∷ token Name 2 (codes "x") ∷ [])
    (next (escaped_char refl) (next (name (codes "x") (refl, refl) no refl) done)))
    (piece 1 (_, refl, refl, refl, λ k v. absurd (not_char k)) (piece 1 (bare 0 1 (inl (refl, refl)) (refl, refl) refl no no) (ends (_, refl, refl))))
    ((_, refl), (first_name, ((_, refl), ((_, refl), (refl, tt))))) (codes "/", _, refl, refl, ([], [], [], refl, refl, refl, refl))

-- The pattern `/users/:id` of a pathname: texts are joined, and the slash before a name is its
-- prefix.
abbrev pub users_pieces : List Piece
users_pieces = Text (codes "/") ∷ Text (codes "u") ∷ Text (codes "s") ∷ Text (codes "e") ∷ Text (codes "r") ∷ Text (codes "s")
    ∷ Bare (codes "/") (named (codes "id")) modifiers.None ∷ []

pub users : Reads (codes "/users/:id") pathname_options keeping (
    fixed_text (codes "/users") modifiers.None ∷ group SegmentWildcard (codes "/") (codes "id") [] modifiers.None ∷ [])
unfolding escaped
users =
    read_by users_pieces (token End 10 []) users_tokens
    (piece 1 (_, refl, refl, refl, λ k v. no) (piece 1 (_, refl, refl, refl, λ k v. no) (piece 1 (_, refl, refl, refl, λ k v. no)
    (piece 1 (_, refl, refl, refl, λ k v. no) (piece 1 (_, refl, refl, refl, λ k v. no) (piece 1 (_, refl, refl, refl, λ k v. no)
    (piece 2 (bare 1 1 (inr (refl, refl, refl)) (refl, refl) refl no no) (ends (_, refl, refl)))))))))
    ((_, refl), (first_name, ((_, refl), ((_, refl), (refl, tt))))) (codes "/users", _, refl, refl, (codes "/", [], [], refl, refl, refl, refl))

-- The pattern `a\{:b(c)`: an escaped brace is joined with the text before it, and the expression
-- belongs to the name.
pub custom : Reads (codes "a\\{:b(c)") default_options keeping (
    fixed_text (codes "a{") modifiers.None
    ∷ record { kind = kinds.Regexp; value = codes "c"; modifier = modifiers.None; name = codes "b"; prefix = []; suffix = [] } ∷ [])
custom =
    read_by (Text (codes "a") ∷ Text (codes "{") ∷ Bare [] (record { name = Some (codes "b"); matched = Custom (codes "c") }) modifiers.None ∷ [])
    (token End 8 []) custom_tokens
    (piece 1 (_, refl, refl, refl, λ k v. no) (piece 1 (_, refl, refl, refl, λ k v. absurd (not_char k))
    (piece 2 (bare 0 2 (inl (refl, refl)) (refl, refl) refl tt no) (ends (_, refl, refl)))))
    ((_, refl), (first_name, ((_, refl), ((_, refl), (refl, tt))))) (codes "a{", _, refl, refl, ([], [], [], refl, refl, refl, refl))

-- An encoding that returns the empty text for a lone line feed, and keeps any other text.
abbrev pub emptying : Encoding
emptying text answer = answer ≡ Ok (if bytes_eq text (codes "\n") then [] else text)

-- The body `abc` has only plain characters.
pub letters_body : IsRegexpBody (codes "abc")
letters_body = record {
  body = Plain _ (Plain _ (Plain _ Nothing));
  is_body = (lit< tt, no, (lit< tt, no, (lit< tt, no, tt)));
  spelled = refl;
  not_empty = λ e. cc;
  not_marked = no;
}

-- A fixed text whose encoding is empty is a part too, and separates a name from a custom regular
-- expression.
pub emptied : Reads (codes ":x\\\n(abc)") default_options emptying (
    group SegmentWildcard [] (codes "x") [] modifiers.None ∷ fixed_text [] modifiers.None
    ∷ record { kind = kinds.Regexp; value = codes "abc"; modifier = modifiers.None; name = codes "0"; prefix = []; suffix = [] } ∷ [])
unfolding digits literals
emptied =
    read_by (Bare [] (named (codes "x")) modifiers.None ∷ Text (codes "\n") ∷ Bare [] (unnamed (Custom (codes "abc"))) modifiers.None ∷ []) (token End 9 [])
    (tokens_of (token Name 0 (codes "x") ∷ token EscapedChar 2 (codes "\n") ∷ token Regexp 4 (codes "abc") ∷ [])
    (next (name (codes "x") (refl, refl) no refl) (next (escaped_char refl) (next (regexp (codes "abc") letters_body refl) done))))
    (piece 1 (bare 0 1 (inl (refl, refl)) (refl, refl) refl no no) (piece 1 (_, refl, refl, refl, λ k v. absurd (not_char k))
    (piece 1 (bare 0 1 (inl (refl, refl)) (refl, refl) refl tt no) (ends (_, refl, refl)))))
    (first_name, ((_, refl), ((_, refl), ((_, refl), (other_name (λ e. cc), ((_, refl), ((_, refl), (refl, tt))))))))
    ([], [], _, refl, refl, refl, ([], _, refl, refl, ([], [], [], refl, refl, refl, refl)))

-- An empty text has no parts, and is not encoded.
pub nothing : Reads [] default_options refusing []
nothing = read_by [] (token End 0 []) empty (ends ([], refl, refl)) (refl, tt) refl

-- The pattern `{}?`: an empty group makes no part, and is not encoded.
pub empty_group : Reads (codes "{}?") default_options refusing []
unfolding literals
empty_group =
    read_by (TextGroup [] modifiers.Optional ∷ []) (token End 3 [])
    (tokens_of (token Open 0 (codes "{") ∷ token Close 1 (codes "}") ∷ token OtherModifier 2 (codes "?") ∷ [])
    (next (mark (refl, refl) tt refl) (next (mark (refl, refl) tt refl) (next (mark (refl, inr refl) tt refl) done))))
    (piece 3 (
      [],
      braced (token Open 0 (codes "{")) (token Close 1 (codes "}")) (token OtherModifier 2 (codes "?") ∷ []) refl refl refl (refl, refl) tt,
      (refl, refl),
    ) (ends (_, refl, refl)))
    (refl, tt) refl

-- ---- texts that are rejected

-- The pattern `{a`: a group is not closed.
pub open_group : Rejects (codes "{a") default_options keeping (views.ExpectedToken Close End [])
unfolding literals
open_group =
    refused_by [] (LacksClose (token End 2 []))
    (tokens_of (token Open 0 (codes "{") ∷ token Char 1 (codes "a") ∷ []) (next (mark (refl, refl) tt refl) (next (char refl refl refl) done)))
    (ends (_, token Char 1 (codes "a") ∷ [], _, refl, refl, (no, inl (codes "a", (refl, refl), no)), λ e. cc)) (inl (λ e. cc, refl))

-- The pattern `a?`: a text has no modifier.
pub stray_modifier : Rejects (codes "a?") default_options keeping (views.ExpectedToken End OtherModifier (codes "?"))
unfolding literals
stray_modifier =
    refused_by (Text (codes "a") ∷ []) (Stops (token OtherModifier 1 (codes "?")))
    (tokens_of (token Char 0 (codes "a") ∷ token OtherModifier 1 (codes "?") ∷ []) (next (char refl refl refl) (next (mark (refl, inr refl) tt refl) done)))
    (piece 1 (_, refl, refl, refl, λ k v. no) (ends (_, refl, refl))) (inr ((_, refl), inl (λ e. cc, refl)))

-- The pattern `}`: no group is open.
pub stray_close : Rejects (codes "}") default_options keeping (views.ExpectedToken End Close (codes "}"))
unfolding literals
stray_close =
    refused_by [] (Stops (token Close 0 (codes "}"))) (tokens_of (token Close 0 (codes "}") ∷ []) (next (mark (refl, refl) tt refl) done))
    (ends (_, refl, refl)) (inl (λ e. cc, refl))

-- The pattern `{a{b}}`: a brace opens where the group must be closed.
pub nested_group : Rejects (codes "{a{b}}") default_options keeping (views.ExpectedToken Close Open (codes "{"))
unfolding literals
nested_group =
    refused_by [] (LacksClose (token Open 2 (codes "{")))
    (tokens_of (
    token Open 0 (codes "{") ∷ token Char 1 (codes "a") ∷ token Open 2 (codes "{") ∷ token Char 3 (codes "b")
    ∷ token Close 4 (codes "}") ∷ token Close 5 (codes "}") ∷ []
    )
    (next (mark (refl, refl) tt refl) (next (char refl refl refl) (next (mark (refl, refl) tt refl)
    (next (char refl refl refl) (next (mark (refl, refl) tt refl) (next (mark (refl, refl) tt refl) done)))))))
    (ends nested) (inl (λ e. cc, refl))

-- The pattern `:a:a`: two segments have the same name.
pub same_name : Rejects (codes ":a:a") default_options keeping (views.DuplicateName (codes "a"))
unfolding literals
same_name =
    refused_by (Bare [] (named (codes "a")) modifiers.None ∷ Bare [] (named (codes "a")) modifiers.None ∷ []) (Stops (token End 4 []))
    (tokens_of (token Name 0 (codes "a") ∷ token Name 2 (codes "a") ∷ [])
    (next (name (codes "a") (refl, refl) no refl) (next (name (codes "a") (refl, refl) no refl) done)))
    (piece 1 (bare 0 1 (inl (refl, refl)) (refl, refl) refl no no) (piece 1 (bare 0 1 (inl (refl, refl)) (refl, refl) refl no no) (ends (_, refl, refl))))
    (inr (first_name, inr ((_, refl), inr ((_, refl), inl ((0, lit< tt, refl), refl)))))

-- The pattern `a{`: the text before a group that is not closed is not encoded.
pub unasked : Rejects (codes "a{") default_options refusing (views.ExpectedToken Close End [])
unfolding literals
unasked =
    refused_by (Text (codes "a") ∷ []) (LacksClose (token End 2 []))
    (tokens_of (token Char 0 (codes "a") ∷ token Open 1 (codes "{") ∷ []) (next (char refl refl refl) (next (mark (refl, refl) tt refl) done)))
    (piece 1 (_, refl, refl, refl, λ k v. no) (ends (_, [], _, refl, refl, (no, inl ([], (refl, refl), no)), λ e. cc))) (inl (λ e. cc, refl))

-- The pattern `a}`: a text is encoded before End is expected.
pub asked : Rejects (codes "a}") default_options refusing (views.Url InvalidPort)
unfolding literals
asked =
    refused_by (Text (codes "a") ∷ []) (Stops (token Close 1 (codes "}")))
    (tokens_of (token Char 0 (codes "a") ∷ token Close 1 (codes "}") ∷ []) (next (char refl refl refl) (next (mark (refl, refl) tt refl) done)))
    (piece 1 (_, refl, refl, refl, λ k v. no) (ends (_, refl, refl))) (inl refl)

-- The pattern `:x`: an empty prefix is encoded too.
pub asked_prefix : Rejects (codes ":x") default_options refusing (views.Url InvalidPort)
unfolding literals
asked_prefix =
    refused_by (Bare [] (named (codes "x")) modifiers.None ∷ []) (Stops (token End 2 []))
    (tokens_of (token Name 0 (codes "x") ∷ []) (next (name (codes "x") (refl, refl) no refl) done))
    (piece 1 (bare 0 1 (inl (refl, refl)) (refl, refl) refl no no) (ends (_, refl, refl))) (inr (first_name, inl refl))

-- The pattern `{b}?`: the text of a group is encoded.
pub asked_group : Rejects (codes "{b}?") default_options refusing (views.Url InvalidPort)
unfolding literals
asked_group =
    refused_by (TextGroup (codes "b") modifiers.Optional ∷ []) (Stops (token End 4 []))
    (tokens_of (token Open 0 (codes "{") ∷ token Char 1 (codes "b") ∷ token Close 2 (codes "}") ∷ token OtherModifier 3 (codes "?") ∷ [])
    (next (mark (refl, refl) tt refl) (next (char refl refl refl) (next (mark (refl, refl) tt refl) (next (mark (refl, inr refl) tt refl) done)))))
    (piece 4 (
      token Char 1 (codes "b") ∷ [],
      braced (token Open 0 (codes "{")) (token Close 2 (codes "}")) (token OtherModifier 3 (codes "?") ∷ []) refl refl refl (refl, refl) tt,
      (refl, refl),
    ) (ends (_, refl, refl)))
    (inl refl)

-- The pattern `a:`: a tokenizer fault is reported before any text is encoded.
pub fault_first : Rejects (codes "a:") default_options refusing (views.Tokenizer InvalidName 1)
unfolding literals
fault_first = inl (
  InvalidName,
  1,
  record {
    front = token Char 0 (codes "a") ∷ [];
    left = codes ":";
    cut = cut_of (next (char refl refl refl) done);
    place = refl;
    fault = ([], refl, no);
  },
  refl,
)
