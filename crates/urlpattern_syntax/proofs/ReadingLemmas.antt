-- Lemmas on reading: items and their demands, parts, and the parts read so far.
use Rattle.std.proofs.Common.{◌≡◌, ◌≢◌, ℕ, Bool, true, false, not, Option, Some, None, List, [], ◌∷◌, ◌++◌, map, refl, sym, ap, ◌∙◌, subst, inl, inr, append_assoc, arith, ◌+◌}
use Rattle.std.specs.Prelude.{Result, Ok, Err, bytes_eq, filter, if◌then◌else◌, IfErr, IfOk, String}
use Rattle.std.specs.Str.{IsUtf8, chars}
use Rattle.std.proofs.lemmas.Str.{encodes-chars}
use Rattle.urlpattern_syntax.specs.declared.error.Error.{Error}
use Rattle.std.specs.declared.alloc.Global.{Global}
use Rattle.urlpattern_syntax.specs.Text.{text_of}
use Rattle.std.proofs.lemmas.List.{append-nil}
use Rattle.std.proofs.lemmas.Bool.{cond_both, false≢true, false_from_ne_true}
use Rattle.std.proofs.lemmas.Slice.Eq.{bytes_eq-Decides}
use Rattle.urlpattern_syntax.specs.declared.parser.PartModifier.{PartModifier}
use Rattle.urlpattern_syntax.specs.declared.parser.PartModifier.TheVariants as modifiers
use Rattle.urlpattern_syntax.specs.declared.parser.PartType.TheVariants.{SegmentWildcard, FullWildcard, Regexp}
use Rattle.urlpattern_syntax.specs.declared.tokenizer.TokenType.TheVariants.{Close, End}
use Rattle.urlpattern_syntax.specs.Errors.{ErrorView, error_view}
use Rattle.urlpattern_syntax.specs.Options.{OptionsView}
use Rattle.urlpattern_syntax.specs.Parsing.{AddsParts, PartListView, MemoryOr, item_demands, pending_items}
use Rattle.urlpattern_syntax.specs.Parts.{PartView, fixed_text}
use Rattle.urlpattern_syntax.specs.Pieces.{Ending, Ending as endings}
use Rattle.urlpattern_syntax.specs.Reading.{AreMet, AreParts, Capture, Demand, Encode, Encoding, Expect, FirstFails, Fixed, Item, NewName, capture_part, placeholder_regexp, demands_after, fixed_text_demands, encoding_of, item, joined_items, kind_of, with_text}
use Rattle.urlpattern_syntax.specs.declared.parser.RegexSyntax.{RegexSyntax}
use Rattle.urlpattern_syntax.specs.RegexpText.{is_empty, full_wildcard, group_names, is_fixed_text, segment_wildcard, segment_wildcard_of}
use Rattle.urlpattern_syntax.specs.Tokens.{TokenView}

-- ---- demands

pub AreMet-append : (encoding : Encoding) (xs ys : List Demand) → AreMet encoding xs → AreMet encoding ys → AreMet encoding (xs ++ ys)
AreMet-append encoding [] ys h g = g
AreMet-append encoding (x ∷ xs) ys h g = (h.0, AreMet-append encoding xs ys h.1 g)

pub FirstFails-behind : (encoding : Encoding) (error : ErrorView) (xs ys : List Demand) → AreMet encoding xs → FirstFails encoding ys error → FirstFails encoding (xs ++ ys) error
FirstFails-behind encoding error [] ys h g = g
FirstFails-behind encoding error (x ∷ xs) ys h g = inr (h.0, FirstFails-behind encoding error xs ys h.1 g)

pub FirstFails-before : (encoding : Encoding) (error : ErrorView) (xs ys : List Demand) → FirstFails encoding xs error → FirstFails encoding (xs ++ ys) error
FirstFails-before encoding error [] ys h = absurd h
FirstFails-before encoding error (x ∷ xs) ys (inl h) = inl h
FirstFails-before encoding error (x ∷ xs) ys (inr h) = inr (h.0, FirstFails-before encoding error xs ys h.1)

-- ---- names

abbrev pub item_names : List Item → List (List ℕ)
item_names [] = []
item_names (Fixed text modifier ∷ items) = item_names items
item_names (Capture prefix name match suffix modifier ∷ items) = name ∷ item_names items

pub item_names-append : (xs ys : List Item) → item_names (xs ++ ys) ≡ item_names xs ++ item_names ys
item_names-append [] ys = refl
item_names-append (Fixed text modifier ∷ xs) ys = item_names-append xs ys
item_names-append (Capture prefix name match suffix modifier ∷ xs) ys = ap (λ x. name ∷ x) (item_names-append xs ys)

pub item_demands-append : (earlier : List (List ℕ)) (xs ys : List Item) → item_demands earlier (xs ++ ys) ≡ item_demands earlier xs ++ item_demands (earlier ++ item_names xs) ys
item_demands-append earlier [] ys = ap (λ e. item_demands e ys) (sym (append-nil earlier))
item_demands-append earlier (Fixed text modifier ∷ xs) ys =
    ap (λ x. fixed_text_demands text ++ x) (item_demands-append earlier xs ys) ∙ sym (append_assoc (fixed_text_demands text) (item_demands earlier xs) (item_demands (earlier ++ item_names xs) ys))
item_demands-append earlier (Capture prefix name match suffix modifier ∷ xs) ys =
    ap (λ x. NewName earlier name ∷ Encode prefix ∷ Encode suffix ∷ x)
    (item_demands-append (earlier ++ name ∷ []) xs ys ∙ ap (λ e. item_demands (earlier ++ name ∷ []) xs ++ item_demands e ys) (append_assoc earlier (name ∷ []) (item_names xs)))

-- ---- items that do not end in a plain fixed text

abbrev pub IsPlain : Item → Type 0
IsPlain (Fixed text modifiers.None) = Unit {0}
IsPlain item = ⊥

abbrev pub EndsOther : List Item → Type 0
EndsOther [] = Unit {0}
EndsOther (x ∷ []) = ¬ IsPlain x
EndsOther (x ∷ y ∷ items) = EndsOther (y ∷ items)

pub EndsOther-push : (xs : List Item) (x : Item) → ¬ IsPlain x → EndsOther (xs ++ x ∷ [])
EndsOther-push [] x h = h
EndsOther-push (y ∷ []) x h = h
EndsOther-push (y ∷ z ∷ xs) x h = EndsOther-push (z ∷ xs) x h

-- A fixed text before other items adds its demand.
demands-fixed_item : (earlier : List (List ℕ)) (text : List ℕ) (modifier : PartModifier) (x : Item) (rest : List Item) (ending : Ending) → demands_after earlier (Fixed text modifier ∷ x ∷ rest) ending ≡ fixed_text_demands text ++ demands_after earlier (x ∷ rest) ending
demands-fixed_item earlier text modifiers.None x rest (endings.Stops found) = refl
demands-fixed_item earlier text modifiers.None x rest (endings.LacksClose found) = refl
demands-fixed_item earlier text modifiers.Optional x rest ending = refl
demands-fixed_item earlier text modifiers.ZeroOrMore x rest ending = refl
demands-fixed_item earlier text modifiers.OneOrMore x rest ending = refl

-- A fixed text that is not plain adds its demand, whatever follows.
demands-fixed_other : (earlier : List (List ℕ)) (text : List ℕ) (modifier : PartModifier) (rest : List Item) (ending : Ending) → ¬ IsPlain (Fixed text modifier) → demands_after earlier (Fixed text modifier ∷ rest) ending ≡ fixed_text_demands text ++ demands_after earlier rest ending
demands-fixed_other earlier text modifier (x ∷ rest) ending h = demands-fixed_item earlier text modifier x rest ending
demands-fixed_other earlier text modifiers.None [] ending h = absurd (h tt)
demands-fixed_other earlier text modifiers.Optional [] ending h = refl
demands-fixed_other earlier text modifiers.ZeroOrMore [] ending h = refl
demands-fixed_other earlier text modifiers.OneOrMore [] ending h = refl

-- The demands of items that do not end in a plain fixed text, and of what follows.
pub demands-split : (earlier : List (List ℕ)) (items rest : List Item) (ending : Ending) → EndsOther items → demands_after earlier (items ++ rest) ending ≡ item_demands earlier items ++ demands_after (earlier ++ item_names items) rest ending
demands-split earlier [] rest ending h = ap (λ e. demands_after e rest ending) (sym (append-nil earlier))
demands-split earlier (Fixed text modifier ∷ []) rest ending h =
    demands-fixed_other earlier text modifier rest ending h
    ∙ ap (λ e. fixed_text_demands text ++ demands_after e rest ending) (sym (append-nil earlier))
    ∙ ap (λ x. x ++ demands_after (earlier ++ []) rest ending) (sym (append-nil (fixed_text_demands text)))
demands-split earlier (Fixed text modifier ∷ y ∷ items) rest ending h =
    demands-fixed_item earlier text modifier y (items ++ rest) ending
    ∙ ap (λ x. fixed_text_demands text ++ x) (demands-split earlier (y ∷ items) rest ending h)
    ∙ sym (append_assoc (fixed_text_demands text) (item_demands earlier (y ∷ items)) (demands_after (earlier ++ item_names (y ∷ items)) rest ending))
demands-split earlier (Capture prefix name match suffix modifier ∷ []) rest ending h = refl
demands-split earlier (Capture prefix name match suffix modifier ∷ y ∷ items) rest ending h =
    ap (λ x. NewName earlier name ∷ Encode prefix ∷ Encode suffix ∷ x)
    (demands-split (earlier ++ name ∷ []) (y ∷ items) rest ending h
    ∙ ap (λ e. item_demands (earlier ++ name ∷ []) (y ∷ items) ++ demands_after e rest ending) (append_assoc earlier (name ∷ []) (item_names (y ∷ items))))

-- The demands of the pending text at the end.
pub demands-pending : (earlier : List (List ℕ)) (pending : List ℕ) (found : TokenView) → demands_after earlier (pending_items pending) (endings.Stops found) ≡ fixed_text_demands pending ++ Expect End found ∷ []
demands-pending earlier [] found = refl
demands-pending earlier (c ∷ pending) found = refl

pub demands-lacking : (earlier : List (List ℕ)) (pending : List ℕ) (found : TokenView) → demands_after earlier (pending_items pending) (endings.LacksClose found) ≡ Expect Close found ∷ []
demands-lacking earlier [] found = refl
demands-lacking earlier (c ∷ pending) found = refl

-- ---- joining

-- Two texts that are put before items one by one are put before them as a single text.
pub with_text-twice : (xs ys : List ℕ) (items : List Item) → with_text xs (with_text ys items) ≡ with_text (xs ++ ys) items
with_text-twice [] ys items = refl
with_text-twice (x ∷ xs) [] items = ap (λ z. with_text (x ∷ z) items) (sym (append-nil xs))
with_text-twice (x ∷ xs) (y ∷ ys) [] = refl
with_text-twice (x ∷ xs) (y ∷ ys) (Fixed more modifiers.None ∷ items) = ap (λ z. Fixed (x ∷ z) modifiers.None ∷ items) (sym (append_assoc xs (y ∷ ys) more))
with_text-twice (x ∷ xs) (y ∷ ys) (Fixed more modifiers.Optional ∷ items) = refl
with_text-twice (x ∷ xs) (y ∷ ys) (Fixed more modifiers.ZeroOrMore ∷ items) = refl
with_text-twice (x ∷ xs) (y ∷ ys) (Fixed more modifiers.OneOrMore ∷ items) = refl
with_text-twice (x ∷ xs) (y ∷ ys) (Capture prefix name match suffix modifier ∷ items) = refl

-- A text before an item that is not plain is an item of its own.
pub with_text-other : (text : List ℕ) (x : Item) (items : List Item) → ¬ IsPlain x → with_text text (x ∷ items) ≡ pending_items text ++ x ∷ items
with_text-other [] x items h = refl
with_text-other (c ∷ text) (Fixed more modifiers.None) items h = absurd (h tt)
with_text-other (c ∷ text) (Fixed more modifiers.Optional) items h = refl
with_text-other (c ∷ text) (Fixed more modifiers.ZeroOrMore) items h = refl
with_text-other (c ∷ text) (Fixed more modifiers.OneOrMore) items h = refl
with_text-other (c ∷ text) (Capture prefix name match suffix modifier) items h = refl

pub with_text-nil : (text : List ℕ) → with_text text [] ≡ pending_items text
with_text-nil [] = refl
with_text-nil (c ∷ text) = refl

-- An item that is not plain is not joined with the next.
pub joined-other : (x : Item) (items : List Item) → ¬ IsPlain x → joined_items (x ∷ items) ≡ x ∷ joined_items items
joined-other (Fixed more modifiers.None) items h = absurd (h tt)
joined-other (Fixed more modifiers.Optional) items h = refl
joined-other (Fixed more modifiers.ZeroOrMore) items h = refl
joined-other (Fixed more modifiers.OneOrMore) items h = refl
joined-other (Capture prefix name match suffix modifier) items h = refl

-- ---- parts

pub AreParts-append : (options : OptionsView) (encoding : Encoding) (xs ys : List Item) (parts more : List PartView) → AreParts options encoding xs parts → AreParts options encoding ys more → AreParts options encoding (xs ++ ys) (parts ++ more)
AreParts-append options encoding [] ys parts more h g = subst (λ p. AreParts options encoding ys (p ++ more)) (sym h) g
AreParts-append options encoding (Fixed [] modifier ∷ xs) ys parts more h g = AreParts-append options encoding xs ys parts more h g
AreParts-append options encoding (Fixed (c ∷ text) modifier ∷ xs) ys parts more h g =
    (h.0, h.1 ++ more, ap (λ p. p ++ more) h.2, h.3, AreParts-append options encoding xs ys h.1 more h.4 g)
AreParts-append options encoding (Capture prefix name match suffix modifier ∷ xs) ys parts more h g =
    (h.0, h.1, h.2 ++ more, ap (λ p. p ++ more) h.3, h.4, h.5, AreParts-append options encoding xs ys h.2 more h.6 g)

capture_is_group : (options : OptionsView) (regexp : List ℕ) → is_fixed_text (kind_of options regexp) ≡ false
capture_is_group options regexp =
    cond_both (bytes_eq regexp (segment_wildcard options)) SegmentWildcard _ (λ kind. is_fixed_text kind ≡ false) (λ _. refl)
    (λ _. cond_both (bytes_eq regexp full_wildcard) FullWildcard Regexp (λ kind. is_fixed_text kind ≡ false) (λ _. refl) (λ _. refl))

-- The names of the parts are those of the items.
pub names-AreParts : (options : OptionsView) (encoding : Encoding) (items : List Item) (parts : List PartView) → AreParts options encoding items parts → group_names parts ≡ item_names items
names-AreParts options encoding [] parts h = ap group_names h
names-AreParts options encoding (Fixed [] modifier ∷ items) parts h = names-AreParts options encoding items parts h
names-AreParts options encoding (Fixed (c ∷ text) modifier ∷ items) parts h =
    ap group_names h.2 ∙ names-AreParts options encoding items h.1 h.4
names-AreParts options encoding (Capture prefix name match suffix modifier ∷ items) parts h =
    ap group_names h.3
    ∙ ap (λ b. map (λ (part : PartView). part.name) (if not b then capture_part options h.0 name match h.1 modifier ∷ filter (λ part. not (is_fixed_text part.kind)) h.2 else filter (λ part. not (is_fixed_text part.kind)) h.2)) (capture_is_group options (placeholder_regexp options match))
    ∙ ap (λ x. name ∷ x) (names-AreParts options encoding items h.2 h.6)

-- ---- the names of parts

pub group_names-append : (xs ys : List PartView) → group_names (xs ++ ys) ≡ group_names xs ++ group_names ys
group_names-append [] ys = refl
group_names-append (x ∷ xs) ys = by_kind (is_fixed_text x.kind) (group_names-append xs ys)
  where
    by_kind : (b : Bool) → group_names (xs ++ ys) ≡ group_names xs ++ group_names ys → map (λ (part : PartView). part.name) (if not b then x ∷ filter (λ part. not (is_fixed_text part.kind)) (xs ++ ys) else filter (λ part. not (is_fixed_text part.kind)) (xs ++ ys)) ≡ map (λ (part : PartView). part.name) (if not b then x ∷ filter (λ part. not (is_fixed_text part.kind)) xs else filter (λ part. not (is_fixed_text part.kind)) xs) ++ group_names ys
    by_kind true h = h
    by_kind false h = ap (λ z. x.name ∷ z) h

-- ---- the kind of a part

pub kind_segment : (options : OptionsView) (regexp : List ℕ) → regexp ≡ segment_wildcard options → kind_of options regexp ≡ SegmentWildcard
kind_segment options regexp e = ap (λ b. if b then SegmentWildcard else (if bytes_eq regexp full_wildcard then FullWildcard else Regexp)) ((bytes_eq-Decides regexp (segment_wildcard options)).1 e)

other_bytes : (xs ys : List ℕ) → xs ≢ ys → bytes_eq xs ys ≡ false
other_bytes xs ys h = false_from_ne_true (bytes_eq xs ys) (λ e. h ((bytes_eq-Decides xs ys).0 e))

pub kind_full : (options : OptionsView) (regexp : List ℕ) → regexp ≢ segment_wildcard options → regexp ≡ full_wildcard → kind_of options regexp ≡ FullWildcard
kind_full options regexp h e =
    ap (λ b. if b then SegmentWildcard else (if bytes_eq regexp full_wildcard then FullWildcard else Regexp)) (other_bytes regexp (segment_wildcard options) h)
    ∙ ap (λ b. if b then FullWildcard else Regexp) ((bytes_eq-Decides regexp full_wildcard).1 e)

abbrev first_or_zero : List ℕ → ℕ
first_or_zero [] = 0
first_or_zero (c ∷ text) = c

-- The regular expression of a segment is not that of a full wildcard.
no_segment : (syntax : RegexSyntax) (delimiter : Option ℕ) → full_wildcard ≢ segment_wildcard_of syntax delimiter
no_segment syntax None e = cc e
no_segment syntax (Some c) e = let h : 46 ≡ 91 = ap first_or_zero e in omega (arith, h)

pub kind_wildcard : (options : OptionsView) → kind_of options full_wildcard ≡ FullWildcard
kind_wildcard options = kind_full options full_wildcard (no_segment options.syntax options.delimiter) refl

pub kind_custom : (options : OptionsView) (regexp : List ℕ) → regexp ≢ segment_wildcard options → regexp ≢ full_wildcard → kind_of options regexp ≡ Regexp
kind_custom options regexp h g =
    ap (λ b. if b then SegmentWildcard else (if bytes_eq regexp full_wildcard then FullWildcard else Regexp)) (other_bytes regexp (segment_wildcard options) h)
    ∙ ap (λ b. if b then FullWildcard else Regexp) (other_bytes regexp full_wildcard g)

-- ---- results of callbacks

pub asked_ok : (returns : List ℕ → Result (String Global) Error → Type 0) (bytes : List ℕ) (answer : Result (String Global) Error) → IsUtf8 bytes → returns bytes answer → IfOk answer (λ text. encoding_of returns (chars bytes) (Ok (text_of text)))
asked_ok returns bytes (Ok text) u h = (Ok text, subst (λ b. returns b (Ok text)) (sym (encodes-chars bytes u)) h, refl)
asked_ok returns bytes (Err error) u h = tt

pub asked_err : (returns : List ℕ → Result (String Global) Error → Type 0) (bytes : List ℕ) (answer : Result (String Global) Error) → IsUtf8 bytes → returns bytes answer → IfErr answer (λ error. encoding_of returns (chars bytes) (Err (error_view error)))
asked_err returns bytes (Ok text) u h = tt
asked_err returns bytes (Err error) u h = (Err error, subst (λ b. returns b (Err error)) (sym (encodes-chars bytes u)) h, refl)

-- `MemoryOr` of a weaker fact.
pub MemoryOr-weaker : (P Q : ErrorView → Type 0) (error : Error) → ((view : ErrorView) → P view → Q view) → MemoryOr P error → MemoryOr Q error
MemoryOr-weaker P Q error f (inl h) = inl h
MemoryOr-weaker P Q error f (inr h) = inr (f (error_view error) h)

-- ---- the pending text

pub pending_parts : (options : OptionsView) (encoding : Encoding) (text value : List ℕ) → is_empty text ≡ false → encoding text (Ok value) → AreParts options encoding (pending_items text) (fixed_text value modifiers.None ∷ [])
pending_parts options encoding [] value e h = absurd (false≢true (sym e))
pending_parts options encoding (c ∷ text) value e h = (value, [], refl, h, refl)

pub pending_met : (encoding : Encoding) (earlier : List (List ℕ)) (text value : List ℕ) → encoding text (Ok value) → AreMet encoding (item_demands earlier (pending_items text))
pending_met encoding earlier [] value h = tt
pending_met encoding earlier (c ∷ text) value h = ((value, h), tt)

pub pending_fails : (encoding : Encoding) (earlier : List (List ℕ)) (text : List ℕ) (error : ErrorView) → is_empty text ≡ false → encoding text (Err error) → FirstFails encoding (item_demands earlier (pending_items text)) error
pending_fails encoding earlier [] error e h = absurd (false≢true (sym e))
pending_fails encoding earlier (c ∷ text) error e h = inl h

pub nothing_pending : (options : OptionsView) (encoding : Encoding) (old : PartListView) → old.pending ≡ [] → AddsParts options encoding old (pending_items old.pending) old
nothing_pending options encoding old e = record {
  added = [];
  parts = sym (append-nil old.parts);
  are_parts = subst (λ text. AreParts options encoding (pending_items text) []) (sym e) refl;
  are_met = subst (λ text. AreMet encoding (item_demands (group_names old.parts) (pending_items text))) (sym e) tt;
  pending = e;
}

-- ---- an item after those added

module _ (options : OptionsView) (encoding : Encoding) (old mid : PartListView) (items : List Item) (a : AddsParts options encoding old items mid) where
  names_mid : group_names mid.parts ≡ group_names old.parts ++ item_names items
  names_mid =
      ap group_names a.parts ∙ group_names-append old.parts a.added
      ∙ ap (λ x. group_names old.parts ++ x) (names-AreParts options encoding items a.added a.are_parts)

  split_demands : (item : Item) → item_demands (group_names old.parts) (items ++ item ∷ []) ≡ item_demands (group_names old.parts) items ++ item_demands (group_names mid.parts) (item ∷ [])
  split_demands item =
      item_demands-append (group_names old.parts) items (item ∷ [])
      ∙ ap (λ names. item_demands (group_names old.parts) items ++ item_demands names (item ∷ [])) (sym names_mid)

  pub adds_item : (new : PartListView) (item : Item) (added : List PartView) → AreParts options encoding (item ∷ []) added → AreMet encoding (item_demands (group_names mid.parts) (item ∷ [])) → new.parts ≡ mid.parts ++ added → new.pending ≡ mid.pending → AddsParts options encoding old (items ++ item ∷ []) new
  adds_item new item added are_parts are_met parts pending = record {
    added = a.added ++ added;
    parts = parts ∙ ap (λ x. x ++ added) a.parts ∙ append_assoc old.parts a.added added;
    are_parts = AreParts-append options encoding items (item ∷ []) a.added added a.are_parts are_parts;
    are_met = subst (AreMet encoding) (sym (split_demands item)) (AreMet-append encoding _ _ a.are_met are_met);
    pending = pending ∙ a.pending;
  }

  pub fails_item : (item : Item) (error : ErrorView) → FirstFails encoding (item_demands (group_names mid.parts) (item ∷ [])) error → FirstFails encoding (item_demands (group_names old.parts) (items ++ item ∷ [])) error
  fails_item item error h =
      subst (λ demands. FirstFails encoding demands error) (sym (split_demands item)) (FirstFails-behind encoding error _ _ a.are_met h)

-- ---- fixed texts with a modifier

pub fixed_parts : (options : OptionsView) (encoding : Encoding) (text value : List ℕ) (modifier : PartModifier) → is_empty text ≡ false → encoding text (Ok value) → AreParts options encoding (Fixed text modifier ∷ []) (fixed_text value modifier ∷ [])
fixed_parts options encoding [] value modifier e h = absurd (false≢true (sym e))
fixed_parts options encoding (c ∷ text) value modifier e h = (value, [], refl, h, refl)

pub fixed_met : (encoding : Encoding) (earlier : List (List ℕ)) (text value : List ℕ) (modifier : PartModifier) → encoding text (Ok value) → AreMet encoding (item_demands earlier (Fixed text modifier ∷ []))
fixed_met encoding earlier [] value modifier h = tt
fixed_met encoding earlier (c ∷ text) value modifier h = ((value, h), tt)

pub fixed_fails : (encoding : Encoding) (earlier : List (List ℕ)) (text : List ℕ) (modifier : PartModifier) (error : ErrorView) → is_empty text ≡ false → encoding text (Err error) → FirstFails encoding (item_demands earlier (Fixed text modifier ∷ [])) error
fixed_fails encoding earlier [] modifier error e h = absurd (false≢true (sym e))
fixed_fails encoding earlier (c ∷ text) modifier error e h = inl h
