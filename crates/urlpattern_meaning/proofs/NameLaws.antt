-- The names of a reading's groups.
use Rattle.std.proofs.Common.{◌≡◌, ◌≢◌, ℕ, suc, true, false, List, [], ◌∷◌, ◌++◌, Option, Some, None, refl, sym, ap, ◌∙◌, subst, arith}
use Rattle.std.specs.Prelude.{All, AllPairs, Contains, decimal, if◌then◌else◌}
use Rattle.std.specs.Char.{is_ascii_digit}
use Rattle.std.proofs.lemmas.Bool.{both_ways, false≢true}
use Rattle.std.proofs.lemmas.List.Elements.{All-cons, All-nil, All-weaker, Contains-append_left, Contains-push}
use Rattle.std.proofs.lemmas.List.Kept.{AllPairs-cons}
use Rattle.urlpattern_meaning.proofs.KindValues.{AllOfKind, AllOfKind-right, PiecesHave, pieces_have, text_of_kind}
use Rattle.urlpattern_syntax.proofs.ReadingLemmas.{item_names, names-AreParts}
use Rattle.urlpattern_syntax.proofs.NameCharacters.{decimal_starts, name_start_no_digit, name_starts, starts_with_digit}
use Rattle.urlpattern_syntax.specs.declared.parser.PartModifier.TheVariants as modifiers
use Rattle.urlpattern_syntax.specs.declared.tokenizer.TokenType.{TokenType}
use Rattle.urlpattern_syntax.specs.declared.tokenizer.TokenType.TheVariants.{Name, Regexp}
use Rattle.urlpattern_meaning.specs.Laws.{CountFrom, numbers_among}
use Rattle.urlpattern_syntax.specs.Options.{OptionsView}
use Rattle.urlpattern_syntax.specs.Parts.{PartView}
use Rattle.urlpattern_syntax.specs.Pieces.{ArePieces, Ending, IsPlaceholderOf, PlaceholderKindView, Piece, kinds, values, Ending as endings, PlaceholderKindView as matched, Piece as pieces}
use Rattle.urlpattern_syntax.specs.Reading.{AreMet, Capture, Demand, Encoding, Fixed, Item, Reads, demands_after, fixed_text_demands, items_from, items_of, joined_items, name_or, next_number, with_text}
use Rattle.urlpattern_syntax.specs.RegexpText.{group_names}
use Rattle.urlpattern_syntax.specs.Text.{begins_with, BeginsWith}
use Rattle.urlpattern_syntax.specs.Tokens.{AreTokens, IsName, TokenView}

-- ---- the names in tokens and placeholders

-- The value of each Name is a name.
abbrev pub NameTokens : List TokenView → Type 0
NameTokens tokens = AllOfKind Name IsName tokens

pub text_names : (text : List ℕ) (tokens : List TokenView) → AreTokens text tokens → NameTokens tokens
text_names = text_of_kind Name IsName (λ e. cc e) (λ value text spells. spells.1)

abbrev pub GivesName : Option (List ℕ) → Type 0
GivesName None = Unit {0}
GivesName (Some name) = IsName name

first_name : (tokens : List TokenView) (more : List TokenType) (others : List (List ℕ)) (name : List ℕ) → NameTokens tokens → kinds tokens ≡ Name ∷ more → values tokens ≡ name ∷ others → IsName name
first_name [] more others name h k v = absurd (cc k)
first_name (token ∷ tokens) more others name h k v =
    let kind : token.kind ≡ Name = cc k in
    let value : token.value ≡ name = cc v in
    subst IsName value (h.0 kind)

placeholder_name : (tokens : List TokenView) (name : Option (List ℕ)) (what : PlaceholderKindView) → NameTokens tokens → IsPlaceholderOf tokens name what → GivesName name
placeholder_name tokens None what h is = tt
placeholder_name tokens (Some name) matched.Segment h is = first_name tokens [] [] name h is.0 is.1
placeholder_name tokens (Some name) (matched.Custom body) h is = first_name tokens (Regexp ∷ []) (body ∷ []) name h is.0 is.1
placeholder_name tokens (Some name) matched.Anything h is = absurd is

-- The name of each piece that has one is a name of a pattern.
abbrev pub NamePieces : List Piece → Type 0
NamePieces list = PiecesHave (λ name what. GivesName name) list

pub all_piece_names : (point : List ℕ) (tokens : List TokenView) (list : List Piece) (ending : Ending) → NameTokens tokens → ArePieces point tokens list ending → NamePieces list
all_piece_names = pieces_have Name IsName (λ name what. GivesName name) placeholder_name

-- ---- the names of items

names-with_text : (text : List ℕ) (items : List Item) → item_names (with_text text items) ≡ item_names items
names-with_text [] items = refl
names-with_text (c ∷ text) [] = refl
names-with_text (c ∷ text) (Fixed more modifiers.None ∷ items) = refl
names-with_text (c ∷ text) (Fixed more modifiers.Optional ∷ items) = refl
names-with_text (c ∷ text) (Fixed more modifiers.ZeroOrMore ∷ items) = refl
names-with_text (c ∷ text) (Fixed more modifiers.OneOrMore ∷ items) = refl
names-with_text (c ∷ text) (Capture prefix name match suffix modifier ∷ items) = refl

names-joined : (items : List Item) → item_names (joined_items items) ≡ item_names items
names-joined [] = refl
names-joined (Fixed text modifiers.None ∷ items) = names-with_text text (joined_items items) ∙ names-joined items
names-joined (Fixed text modifiers.Optional ∷ items) = names-joined items
names-joined (Fixed text modifiers.ZeroOrMore ∷ items) = names-joined items
names-joined (Fixed text modifiers.OneOrMore ∷ items) = names-joined items
names-joined (Capture prefix name match suffix modifier ∷ items) = ap (λ x. name ∷ x) (names-joined items)

-- Properties of names, where `number` placeholders before them have none.
record AreGood (number : ℕ) (names : List (List ℕ)) : Type 0 where
  pub some : All (λ name. name ≢ []) names
  pub counted : CountFrom number (numbers_among names)

starts_some : (name : List ℕ) → starts_with_digit name ≡ true → name ≢ []
unfolding starts_with_digit
starts_some name h e = false≢true (subst (λ x. begins_with is_ascii_digit x ≡ true) e h)

name_some : (name : List ℕ) → IsName name → name ≢ []
name_some name h e = subst IsName e h

kept : (name : List ℕ) (names : List (List ℕ)) → starts_with_digit name ≡ true → numbers_among (name ∷ names) ≡ name ∷ numbers_among names
unfolding starts_with_digit
kept name names h = ap (λ b. if b then name ∷ numbers_among names else numbers_among names) h

dropped : (name : List ℕ) (names : List (List ℕ)) → starts_with_digit name ≡ false → numbers_among (name ∷ names) ≡ numbers_among names
unfolding starts_with_digit
dropped name names h = ap (λ b. if b then name ∷ numbers_among names else numbers_among names) h

good_number : (number : ℕ) (names : List (List ℕ)) → AreGood (suc number) names → AreGood number (decimal number ∷ names)
good_number number names h = record {
  some = All-cons (λ name. name ≢ []) (decimal number) names (starts_some (decimal number) (decimal_starts number)) h.some;
  counted = subst (CountFrom number) (sym (kept (decimal number) names (decimal_starts number))) (refl, h.counted);
}

good_name : (number : ℕ) (name : List ℕ) (names : List (List ℕ)) → IsName name → AreGood number names → AreGood number (name ∷ names)
good_name number name names is h = record {
  some = All-cons (λ name. name ≢ []) name names (name_some name is) h.some;
  counted = subst (CountFrom number) (sym (dropped name names (name_starts name is))) h.counted;
}

good_capture : (number : ℕ) (name : Option (List ℕ)) (names : List (List ℕ)) → GivesName name → AreGood (next_number name number) names → AreGood number (name_or name number ∷ names)
good_capture number (Some name) names is h = good_name number name names is h
good_capture number None names is h = good_number number names h

good_items : (number : ℕ) (list : List Piece) → NamePieces list → AreGood number (item_names (items_from number list))
good_items number [] h = record { some = All-nil (λ name. name ≢ []); counted = tt }
good_items number (pieces.Text text ∷ list) h = good_items number list h.1
good_items number (pieces.TextGroup text modifier ∷ list) h = good_items number list h.1
good_items number (pieces.Bare prefix placeholder modifier ∷ list) h =
    good_capture number placeholder.name _ h.0 (good_items (next_number placeholder.name number) list h.1)
good_items number (pieces.Group before placeholder after modifier ∷ list) h =
    good_capture number placeholder.name _ h.0 (good_items (next_number placeholder.name number) list h.1)

-- ---- new names

-- None of the names is among those before it.
abbrev pub NewNames : (earlier : List (List ℕ)) → List Item → Type 0
NewNames earlier [] = Unit {0}
NewNames earlier (Fixed text modifier ∷ items) = NewNames earlier items
NewNames earlier (Capture prefix name match suffix modifier ∷ items) = (¬ Contains earlier name) × NewNames (earlier ++ name ∷ []) items

met_fixed : (encoding : Encoding) (text : List ℕ) (rest : List Demand) → AreMet encoding (fixed_text_demands text ++ rest) → AreMet encoding rest
met_fixed encoding [] rest h = h
met_fixed encoding (c ∷ text) rest h = h.1

met_new : (encoding : Encoding) (earlier : List (List ℕ)) (items : List Item) (found : TokenView) → AreMet encoding (demands_after earlier items (endings.Stops found)) → NewNames earlier items
met_new encoding earlier [] found h = tt
met_new encoding earlier (Fixed text modifiers.None ∷ []) found h = tt
met_new encoding earlier (Fixed text modifiers.None ∷ x ∷ items) found h =
    met_new encoding earlier (x ∷ items) found (met_fixed encoding text (demands_after earlier (x ∷ items) (endings.Stops found)) h)
met_new encoding earlier (Fixed text modifiers.Optional ∷ items) found h =
    met_new encoding earlier items found (met_fixed encoding text (demands_after earlier items (endings.Stops found)) h)
met_new encoding earlier (Fixed text modifiers.ZeroOrMore ∷ items) found h =
    met_new encoding earlier items found (met_fixed encoding text (demands_after earlier items (endings.Stops found)) h)
met_new encoding earlier (Fixed text modifiers.OneOrMore ∷ items) found h =
    met_new encoding earlier items found (met_fixed encoding text (demands_after earlier items (endings.Stops found)) h)
met_new encoding earlier (Capture prefix name match suffix modifier ∷ items) found h =
    (h.0, met_new encoding (earlier ++ name ∷ []) items found h.1.1.1)

abbrev pub Differ : List ℕ → List ℕ → Type 0
Differ name other = name ≢ other

-- Properties of names that are new after others.
record AreNewAfter (earlier names : List (List ℕ)) : Type 0 where
  pub behind : All (λ name. ¬ Contains earlier name) names
  pub distinct : AllPairs Differ names

new_names : (earlier : List (List ℕ)) (items : List Item) → NewNames earlier items → AreNewAfter earlier (item_names items)
new_names earlier [] h = record { behind = All-nil (λ name. ¬ Contains earlier name); distinct = λ i j d lt within. absurd (omega arith) }
new_names earlier (Fixed text modifier ∷ items) h = new_names earlier items h
new_names earlier (Capture prefix name match suffix modifier ∷ items) h =
    let more = new_names (earlier ++ name ∷ []) items h.1 in
    record {
      behind = All-cons (λ name. ¬ Contains earlier name) name (item_names items) h.0
          (All-weaker (λ other. ¬ Contains (earlier ++ name ∷ []) other) (λ other. ¬ Contains earlier other)
          (λ other none has. none (Contains-append_left earlier (name ∷ []) other has)) (item_names items) more.behind);
      distinct = AllPairs-cons Differ name (item_names items)
          (All-weaker (λ other. ¬ Contains (earlier ++ name ∷ []) other) (λ other. name ≢ other)
          (λ other none e. none (subst (Contains (earlier ++ name ∷ [])) e (Contains-push earlier name))) (item_names items) more.behind)
          more.distinct;
    }

-- ---- readings

module _ (text : List ℕ) (options : OptionsView) (encoding : Encoding) (parts : List PartView) (reads : Reads text options encoding parts) where
  reading_names : group_names parts ≡ item_names (items_of reads.pieces)
  reading_names = names-AreParts options encoding (items_of reads.pieces) parts reads.are_parts

  good : AreGood 0 (group_names parts)
  good = subst (AreGood 0) (sym (reading_names ∙ names-joined (items_from 0 reads.pieces)))
      (good_items 0 reads.pieces (all_piece_names options.prefix reads.tokens reads.pieces (endings.Stops reads.found) (text_names text reads.tokens reads.are_tokens) reads.are_pieces))

  pub names_nonempty : All (λ name. name ≢ []) (group_names parts)
  names_nonempty = good.some

  pub names_numbered : CountFrom 0 (numbers_among (group_names parts))
  names_numbered = good.counted

  pub names_distinct : AllPairs (λ name other. name ≢ other) (group_names parts)
  names_distinct =
      subst (AllPairs Differ) (sym reading_names)
      (new_names [] (items_of reads.pieces) (met_new encoding [] (items_of reads.pieces) reads.found reads.are_met)).distinct

name_undigited : (name : List ℕ) → IsName name → ¬ BeginsWith is_ascii_digit name
name_undigited [] h b = h
name_undigited (c ∷ name) h b = both_ways (is_ascii_digit c) (name_start_no_digit c h.0) b

pub given_undigited : (text : List ℕ) (tokens front back : List TokenView) (token : TokenView) → AreTokens text tokens → tokens ≡ front ++ token ∷ back → token.kind ≡ Name → ¬ BeginsWith is_ascii_digit token.value
given_undigited text tokens front back token h e k =
    name_undigited token.value ((AllOfKind-right Name IsName front (token ∷ back) (subst NameTokens e (text_names text tokens h))).0 k)
