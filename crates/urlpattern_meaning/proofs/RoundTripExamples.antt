-- Worked examples of printed patterns that read back, and of what prints or reads otherwise where
-- one premise is missing.
use Rattle.std.proofs.Common.{◌≡◌, ℕ, List, [], ◌∷◌, refl, subst, arith, inl, lit<, Some, None, Ok}
use Rattle.std.specs.Fmt.{digits}
use Rattle.std.specs.Prelude.{codes}
use Rattle.urlpattern_syntax.specs.declared.parser.PartModifier.TheVariants as modifiers
use Rattle.urlpattern_syntax.specs.declared.parser.PartType.TheVariants.{Regexp}
use Rattle.urlpattern_syntax.specs.declared.tokenizer.TokenType.TheVariants as tokens
use Rattle.urlpattern_syntax.specs.Errors.{ErrorView as views}
use Rattle.urlpattern_syntax.specs.Options.{OptionsView, default_options, pathname_options, standard_options}
use Rattle.urlpattern_syntax.specs.Parts.{PartView}
use Rattle.urlpattern_syntax.specs.Pieces.{Piece, Text, Bare, Anything, Custom, Placeholder, Stops}
use Rattle.urlpattern_syntax.specs.Reading.{Encoding, Reads, Rejects}
use Rattle.urlpattern_syntax.specs.RegexpText.{escaped}
use Rattle.urlpattern_syntax.specs.Tokens.{AreTokens, IsRegexpBody, InvalidRegex, NoBody, Nothing, Plain, reason}
use Rattle.urlpattern_syntax.proofs.PieceExamples.{PieceCut, bare, ends, piece}
use Rattle.urlpattern_syntax.proofs.ReadingExamples.{first_name, keeping, named, other_name, read_by, same_name, tokens_of, unnamed}
use Rattle.urlpattern_syntax.proofs.RegexpTextExamples.{group}
use Rattle.urlpattern_syntax.proofs.TokenExamples.{char, done, empty, literals, mark, name, next, no, none, regexp, token}
use Rattle.urlpattern_meaning.specs.Printing.{Keeps, KeepsTexts, encoded_texts, joined, printed}
use Rattle.urlpattern_meaning.specs.RoundTrip.{IsPrintable}
use Rattle.urlpattern_meaning.proofs.PrintingExamples.{plain, printing, segment, wildcard}
use Rattle.urlpattern_meaning.proofs.ReadsBack.{kept_reads}

-- ---- printable parts

-- The encoding that keeps each text keeps those of any parts.
keeps_texts : (texts : List (List ℕ)) → KeepsTexts keeping texts
keeps_texts [] = tt
keeps_texts (text ∷ texts) = (λ answer. (λ e. e, λ e. e), keeps_texts texts)

pub keeps_parts : (parts : List PartView) → Keeps keeping parts
keeps_parts parts = keeps_texts ([] ∷ encoded_texts (joined parts))

-- A slash and a name, which print as `/{:x}`.
pub slash_printable : IsPrintable pathname_options (plain (codes "/") ∷ segment [] (codes "x") [] ∷ [])
unfolding literals
slash_printable = record {
  point = (no, no);
  pattern_parts = record {
    fields = ((refl, refl), ((refl, λ numbered. absurd (numbered refl)), tt));
    names = (refl, (inl (refl, refl), tt));
    distinct = λ i j d lt within. absurd (omega arith);
  };
  texts = (λ e. λ f. cc f, (λ e. absurd (no e), tt));
  unskipped = (refl, ((refl, refl), tt));
}

-- A slash and a name read back.
pub slash_text : printed pathname_options (plain (codes "/") ∷ segment [] (codes "x") [] ∷ []) ≡ codes "/{:x}"
unfolding printing
slash_text = refl

pub slash_read : Reads (codes "/{:x}") pathname_options keeping (plain (codes "/") ∷ segment [] (codes "x") [] ∷ [])
slash_read =
    let parts : List PartView = plain (codes "/") ∷ segment [] (codes "x") [] ∷ [] in
    subst (λ text. Reads text pathname_options keeping parts) slash_text (kept_reads pathname_options keeping parts slash_printable (keeps_parts parts))

-- ---- parts that are not printable

abbrev lone : Placeholder → Piece
lone placeholder = Bare [] placeholder modifiers.None

-- Two names, one after the other.
names_cut : (point first second : List ℕ) (place end : ℕ)
    → PieceCut point (Stops (token tokens.End end [])) (token tokens.Name 0 first ∷ token tokens.Name place second ∷ token tokens.End end [] ∷ [])
    (lone (named first) ∷ lone (named second) ∷ [])
names_cut point first second place end =
    piece 1 (bare 0 1 (inl (refl, refl)) (refl, refl) refl no no) (piece 1 (bare 0 1 (inl (refl, refl)) (refl, refl) refl no no) (ends (_, refl, refl)))

-- An empty fixed text: the printed text is empty, and reads as no parts.
pub empty_text : printed default_options (plain [] ∷ []) ≡ []
unfolding printing
empty_text = refl

pub empty_read : Reads [] default_options keeping []
empty_read = read_by [] (token tokens.End 0 []) empty (ends ([], refl, refl)) (refl, tt) refl

-- An empty fixed text after a name: the name takes the text after it.
pub between_text : printed default_options (segment [] (codes "x") [] ∷ plain [] ∷ plain (codes "b") ∷ []) ≡ codes ":xb"
unfolding printing
between_text = refl

pub between_tokens : AreTokens (codes ":xb") (token tokens.Name 0 (codes "xb") ∷ token tokens.End 3 [] ∷ [])
unfolding literals
between_tokens = tokens_of (token tokens.Name 0 (codes "xb") ∷ []) (next (name (codes "xb") (refl, refl) no refl) done)

abbrev between_pieces : List Piece
between_pieces = lone (named (codes "xb")) ∷ []

between_cut : PieceCut [] (Stops (token tokens.End 3 [])) (token tokens.Name 0 (codes "xb") ∷ token tokens.End 3 [] ∷ []) between_pieces
between_cut = piece 1 (bare 0 1 (inl (refl, refl)) (refl, refl) refl no no) (ends (_, refl, refl))

pub between_read : Reads (codes ":xb") default_options keeping (segment [] (codes "xb") [] ∷ [])
between_read = read_by _ _ between_tokens between_cut (first_name, ((_, refl), ((_, refl), (refl, tt)))) ([], [], [], refl, refl, refl, refl)

-- A tab: it is skipped when it is read.
pub tab_text : printed default_options (plain (codes "\t") ∷ []) ≡ codes "\t"
unfolding printing
tab_text = refl

pub tab_tokens : AreTokens (codes "\t") (token tokens.End 1 [] ∷ [])
unfolding literals
tab_tokens = record { front = []; cut = (codes "\t", refl, refl); all = refl }

pub tab_read : Reads (codes "\t") default_options keeping []
tab_read = read_by [] (token tokens.End 1 []) tab_tokens (ends ([], refl, refl)) (refl, tt) refl

-- A prefix code point that is a letter: the name before it takes it.
abbrev letter_options : OptionsView
letter_options = standard_options None (codes "a")

pub letter_text : printed letter_options (segment [] (codes "x") [] ∷ segment (codes "a") (codes "y") [] ∷ []) ≡ codes ":xa:y"
unfolding printing
letter_text = refl

pub letter_tokens : AreTokens (codes ":xa:y") (token tokens.Name 0 (codes "xa") ∷ token tokens.Name 3 (codes "y") ∷ token tokens.End 5 [] ∷ [])
unfolding literals
letter_tokens =
    tokens_of (token tokens.Name 0 (codes "xa") ∷ token tokens.Name 3 (codes "y") ∷ [])
    (next (name (codes "xa") (refl, refl) no refl) (next (name (codes "y") (refl, refl) no refl) done))

pub letter_read : Reads (codes ":xa:y") letter_options keeping (segment [] (codes "xa") [] ∷ segment [] (codes "y") [] ∷ [])
letter_read = read_by _ _ letter_tokens (names_cut (codes "a") (codes "xa") (codes "y") 3 5) (first_name, ((_, refl), ((_, refl), (other_name (λ e. cc), ((_, refl), ((_, refl), (refl, tt))))))) ([], [], _, refl, refl, refl, ([], [], [], refl, refl, refl, refl))

-- A prefix code point that is a mark: its backslash separates it from the name after it.
pub mark_text : printed (standard_options None (codes "*")) (segment (codes "*") (codes "x") [] ∷ []) ≡ codes "\\*:x"
unfolding printing
mark_text = refl

-- A prefix code point of two characters: no token is both.
pub pair_text : printed (standard_options None (codes "ab")) (segment (codes "ab") (codes "x") [] ∷ []) ≡ codes "ab:x"
unfolding printing
pair_text = refl

-- A first group with the name `1`: it is printed without a name, and numbered from 0.
pub number_text : printed default_options (wildcard (codes "1") ∷ []) ≡ codes "*"
unfolding printing
number_text = refl

pub number_tokens : AreTokens (codes "*") (token tokens.Asterisk 0 (codes "*") ∷ token tokens.End 1 [] ∷ [])
unfolding literals
number_tokens = tokens_of (token tokens.Asterisk 0 (codes "*") ∷ []) (next (mark (refl, refl) tt refl) done)

abbrev number_pieces : List Piece
number_pieces = lone (unnamed Anything) ∷ []

number_cut : PieceCut [] (Stops (token tokens.End 1 [])) (token tokens.Asterisk 0 (codes "*") ∷ token tokens.End 1 [] ∷ []) number_pieces
number_cut = piece 1 (bare 0 1 (inl (refl, refl)) refl refl tt no) (ends (_, refl, refl))

pub number_read : Reads (codes "*") default_options keeping (wildcard (codes "0") ∷ [])
unfolding digits
number_read = read_by _ _ number_tokens number_cut (first_name, ((_, refl), ((_, refl), (refl, tt)))) ([], [], [], refl, refl, refl, refl)

-- Two groups of one name.
pub twice_text : printed default_options (segment [] (codes "a") [] ∷ segment [] (codes "a") [] ∷ []) ≡ codes ":a:a"
unfolding printing
twice_text = refl

pub twice_refused : Rejects (codes ":a:a") default_options keeping (views.DuplicateName (codes "a"))
twice_refused = same_name

-- An empty name.
pub nameless_text : printed default_options (segment [] [] [] ∷ []) ≡ codes ":"
unfolding printing
nameless_text = refl

-- An empty custom regular expression.
abbrev custom : List ℕ → PartView
custom body = record (group Regexp [] (codes "0") [] modifiers.None) { value = body }

pub bodiless_text : printed default_options (custom [] ∷ []) ≡ codes "()"
unfolding printing
bodiless_text = refl

pub bodiless_refused : Rejects (codes "()") default_options keeping (views.Tokenizer (InvalidRegex (reason NoBody)) 0)
unfolding literals
bodiless_refused = inl (InvalidRegex (reason NoBody), 0, record { front = []; left = codes "()"; cut = none; place = refl; fault = (codes ")", NoBody, refl, ([], refl), refl) }, refl)

-- A full wildcard as a custom regular expression.
pub full_text : printed default_options (custom (codes ".*") ∷ []) ≡ codes "(.*)"
unfolding printing
full_text = refl

full_body : IsRegexpBody (codes ".*")
full_body = record {
  body = Plain _ (Plain _ Nothing);
  is_body = (lit< tt, no, (lit< tt, no, tt));
  spelled = refl;
  not_empty = λ e. cc;
  not_marked = no;
}

pub full_tokens : AreTokens (codes "(.*)") (token tokens.Regexp 0 (codes ".*") ∷ token tokens.End 4 [] ∷ [])
unfolding literals
full_tokens = tokens_of (token tokens.Regexp 0 (codes ".*") ∷ []) (next (regexp (codes ".*") full_body refl) done)

abbrev full_pieces : List Piece
full_pieces = lone (unnamed (Custom (codes ".*"))) ∷ []

full_cut : PieceCut [] (Stops (token tokens.End 4 [])) (token tokens.Regexp 0 (codes ".*") ∷ token tokens.End 4 [] ∷ []) full_pieces
full_cut = piece 1 (bare 0 1 (inl (refl, refl)) (refl, refl) refl tt no) (ends (_, refl, refl))

pub full_read : Reads (codes "(.*)") default_options keeping (wildcard (codes "0") ∷ [])
unfolding escaped digits
full_read = read_by _ _ full_tokens full_cut (first_name, ((_, refl), ((_, refl), (refl, tt)))) ([], [], [], refl, refl, refl, refl)

-- A value that no full wildcard has.
pub value_text : printed default_options (record (wildcard (codes "0")) { value = codes "a" } ∷ []) ≡ codes "*"
unfolding printing
value_text = refl

-- A prefix that no fixed text has.
pub prefix_text : printed default_options (record (plain (codes "a")) { prefix = codes "b" } ∷ []) ≡ codes "a"
unfolding printing
prefix_text = refl

-- A delimiter that is not ASCII: the regular expression of the segment may not be written in
-- brackets.
pub delimiter_text : printed (standard_options (Some 0xE9) []) (segment [] (codes "0") [] ∷ []) ≡ codes "([^é]+?)"
unfolding printing
delimiter_text = refl

-- An encoding that changes texts.
abbrev changing : Encoding
changing text answer = answer ≡ Ok (codes "b")

pub changed_tokens : AreTokens (codes "a") (token tokens.Char 0 (codes "a") ∷ token tokens.End 1 [] ∷ [])
unfolding literals
changed_tokens = tokens_of (token tokens.Char 0 (codes "a") ∷ []) (next (char refl refl refl) done)

abbrev changed_pieces : List Piece
changed_pieces = Text (codes "a") ∷ []

changed_cut : PieceCut [] (Stops (token tokens.End 1 [])) (token tokens.Char 0 (codes "a") ∷ token tokens.End 1 [] ∷ []) changed_pieces
changed_cut = piece 1 (_, refl, refl, refl, λ k v. no) (ends (_, refl, refl))

pub changed_read : Reads (codes "a") default_options changing (plain (codes "b") ∷ [])
changed_read = read_by _ _ changed_tokens changed_cut ((_, refl), (refl, tt)) (codes "b", [], refl, refl, refl)
