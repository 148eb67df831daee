-- The regular expression of parts is read as items that match exactly the texts of the parts.
use Rattle.std.proofs.Common.{Option, Some, ◌+◌, ◌≡◌, ◌≢◌, inl, inr, ℕ, suc, List, [], ◌∷◌, Bool, true, false, ◌&&◌, refl, sym, true≢false, if◌then◌else◌}
use Rattle.std.proofs.lemmas.Bool.{and_parts}
use Rattle.std.proofs.lemmas.List.Elements.{All-head, All-tail}
use Rattle.std.specs.List.{flat_map}
use lib.Utf8.{scalars}
use Rattle.urlpattern_laws.proofs.Denoting.{Texts, Nothing}
use Rattle.urlpattern_laws.proofs.ItemsOf.{AreItemsOf, no_items, append_items, same_items, same_texts}
use Rattle.urlpattern_laws.proofs.PartCharacters.{IsOfCharacters, no_fixed, part_characters}
use Rattle.urlpattern_laws.proofs.PieceItems.{fixed_items, piece_inside}
use Rattle.urlpattern_laws.proofs.Senses.{Sense, joined, no_text, quiet}
use Rattle.urlpattern_expressions.specs.PartCaptures.{PartCaptures, PartsCapture}
use Rattle.urlpattern_expressions.specs.MatchedPartTexts.{AllCaptureNothingBy, AllStandAloneBy, CapturesNothingBy, IsMatchedPiece, IsSelfContainedBy, PartMatches, PartsMatch}
use Rattle.urlpattern_expressions.specs.Expressions.{config_for}
use Rattle.urlpattern_expressions.specs.PartWays.{fixed_ways_as, part_ways_as, parts_ways_as, piece_ways_as}
use Rattle.urlpattern_engine.proofs.AtomsRead.{grammar_same}
use Rattle.regex_syntax.specs.declared.Config.{Config}
use Rattle.urlpattern_meaning.specs.PartMeaning.{Allows, Captures, IsCapture, capture_of_none}
use Rattle.urlpattern_meaning.proofs.Copies.{GroupMeans, IsBetween, core_copies}
use Rattle.urlpattern_meaning.proofs.MatchingLaws.{part_of}
use Rattle.urlpattern_engine.proofs.TreesRead.{scalars_parts}
use Rattle.urlpattern_syntax.specs.Options.{OptionsView}
use Rattle.urlpattern_syntax.specs.Parts.{PartView}
use Rattle.urlpattern_syntax.specs.declared.parser.PartModifier.{PartModifier}
use Rattle.urlpattern_syntax.specs.declared.parser.PartType.{PartType}
use Rattle.urlpattern_syntax.specs.declared.parser.PartType.TheVariants.{FixedText}
use Rattle.urlpattern_syntax.specs.RegexpText.{affixed_regexp, bare_regexp, escaped_regexp, group_regexp, is_empty, matched_by, part_regexp}
use Rattle.urlpattern_syntax.specs.Text.{IsRepeated}
use Rattle.urlpattern_laws.proofs.GroupItems.{Counted, Exactly, affixed_group, bare_group, fixed_part, group_sense}

-- ---- a single part

empty_by : (text : List ℕ) → is_empty text ≡ true → text ≡ []
empty_by [] h = refl
empty_by (c ∷ text) h = absurd (true≢false (sym h))

-- Copies of a group, with their capture.
group_copies : (Is : Texts) (kind : PartType) (modifier : PartModifier) (value name prefix suffix text : List ℕ) (captures : Captures) → GroupMeans Is (is_empty prefix && is_empty suffix) modifier prefix suffix text captures
    → (n : ℕ) × Allows modifier n × IsRepeated (IsBetween Is prefix suffix) n text × ((capture : Option (List ℕ)) × IsCapture (part_of kind modifier value name prefix suffix) n text capture × (captures ≡ capture ∷ []))
group_copies Is kind modifier value name prefix suffix text captures (inl (allowed, none, all)) = (0, allowed, none, (capture_of_none modifier (is_empty prefix && is_empty suffix), refl, all))
group_copies Is kind modifier value name prefix suffix text captures (inr (n, core, allowed, cut, is, all)) = (suc n, allowed, core_copies Is prefix suffix n core text cut is, (Some core, (core, cut, refl), all))

abbrev pub part_count : PartType → ℕ
part_count FixedText = 0
part_count kind = 1

abbrev pub parts_count : List PartView → ℕ
parts_count [] = 0
parts_count (part ∷ parts) = part_count part.kind + parts_count parts

module _ (ignore_case : Bool) where
  abbrev config : Config
  config = config_for ignore_case

  group_by : (is_bare : Bool) (options : OptionsView) (kind : PartType) (modifier : PartModifier) (value prefix suffix : List ℕ) → is_empty prefix && is_empty suffix ≡ is_bare → kind ≢ FixedText → IsSelfContainedBy ignore_case kind value
      → scalars prefix ≡ true → scalars suffix ≡ true
      → AreItemsOf ignore_case (if is_bare then bare_regexp modifier (matched_by options kind value) else affixed_regexp modifier (escaped_regexp options prefix) (matched_by options kind value) (escaped_regexp options suffix))
      (group_sense ignore_case is_bare modifier prefix suffix (CapturesNothingBy ignore_case kind value) (IsMatchedPiece options kind value) (piece_ways_as config (grammar_same ignore_case) options kind value))
  group_by true options kind modifier value prefix suffix h group stands p s =
      let both = and_parts _ _ h in
      let no_prefix : prefix ≡ [] = empty_by prefix both.0 in
      let no_suffix : suffix ≡ [] = empty_by suffix both.1 in
      rw (no_prefix, no_suffix) (bare_group ignore_case modifier _ (CapturesNothingBy ignore_case kind value) (IsMatchedPiece options kind value) (piece_ways_as config (grammar_same ignore_case) options kind value) (piece_inside ignore_case options kind value group stands))
  group_by false options kind modifier value prefix suffix h group stands p s =
      affixed_group ignore_case options prefix suffix p s modifier _ (CapturesNothingBy ignore_case kind value) (IsMatchedPiece options kind value) (piece_ways_as config (grammar_same ignore_case) options kind value) (piece_inside ignore_case options kind value group stands)

  group_items : (options : OptionsView) (kind : PartType) (modifier : PartModifier) (value name prefix suffix : List ℕ) → kind ≢ FixedText → IsSelfContainedBy ignore_case kind value → scalars prefix ≡ true → scalars suffix ≡ true
      → AreItemsOf ignore_case (group_regexp options (part_of kind modifier value name prefix suffix)) (group_sense ignore_case (is_empty prefix && is_empty suffix) modifier prefix suffix (CapturesNothingBy ignore_case kind value) (IsMatchedPiece options kind value) (piece_ways_as config (grammar_same ignore_case) options kind value))
  group_items options kind modifier value name prefix suffix group stands p s = group_by (is_empty prefix && is_empty suffix) options kind modifier value prefix suffix refl group stands p s

  abbrev pub part_sense : OptionsView → PartView → Sense
  part_sense options part =
      record { Is = PartMatches options part; count = part_count part.kind; Cap = PartCaptures options part; Known = CapturesNothingBy ignore_case part.kind part.value; ways = part_ways_as config (grammar_same ignore_case) part.kind options part }

  part_by : (options : OptionsView) (kind : PartType) (modifier : PartModifier) (value name prefix suffix : List ℕ) → IsSelfContainedBy ignore_case kind value → IsOfCharacters (part_of kind modifier value name prefix suffix)
      → AreItemsOf ignore_case (part_regexp options (part_of kind modifier value name prefix suffix)) (part_sense options (part_of kind modifier value name prefix suffix))
  unfolding part_regexp
  part_by options FixedText modifier value name prefix suffix stands good =
      same_items ignore_case _ (quiet (Unit {0}) (Counted modifier (Exactly value)) (fixed_ways_as (grammar_same ignore_case) modifier value)) _
      (record {
        texts = same_texts _;
        count = refl;
        caps = λ text captures fine ((n, allowed, are), none). record { count = n; allowed = allowed; are_copies = are; are_captures = none };
        known = λ k. k;
        ways = refl;
      })
      (fixed_part ignore_case modifier (escaped_regexp options value) value (Unit {0}) (Exactly value) (fixed_items ignore_case options value (good.value refl)))
  part_by options kind modifier value name prefix suffix stands good =
      let group = no_fixed kind refl in
      same_items ignore_case _ _ _
      (record {
        texts = same_texts _;
        count = refl;
        caps = λ text captures fine means.
            let c = group_copies (IsMatchedPiece options kind value) kind modifier value name prefix suffix text captures means in
            record { count = c.0; allowed = c.1; are_copies = c.2; are_captures = c.3 };
        known = λ k. k;
        ways = refl;
      })
      (group_items options kind modifier value name prefix suffix group stands (good.prefix group) (good.suffix group))

  pub part_items : (options : OptionsView) (part : PartView) → IsSelfContainedBy ignore_case part.kind part.value → scalars (part_regexp options part) ≡ true → AreItemsOf ignore_case (part_regexp options part) (part_sense options part)
  part_items options part stands good = part_by options part.kind part.modifier part.value part.name part.prefix part.suffix stands (part_characters options part good)

  abbrev IsAlone : PartView → Type 0
  IsAlone part = IsSelfContainedBy ignore_case part.kind part.value

  abbrev IsSilent : PartView → Type 0
  IsSilent part = CapturesNothingBy ignore_case part.kind part.value

  abbrev pub parts_sense : OptionsView → List PartView → Sense
  parts_sense options parts = record { Is = PartsMatch options parts; count = parts_count parts; Cap = PartsCapture options parts; Known = AllCaptureNothingBy ignore_case parts; ways = parts_ways_as config (grammar_same ignore_case) options parts }

  pub parts_items : (options : OptionsView) (parts : List PartView) → AllStandAloneBy ignore_case parts → scalars (flat_map (part_regexp options) parts) ≡ true → AreItemsOf ignore_case (flat_map (part_regexp options) parts) (parts_sense options parts)
  parts_items options [] stands good =
      same_items ignore_case [] (quiet (Unit {0}) Nothing no_text) (parts_sense options []) (record { texts = same_texts _; count = refl; caps = λ text captures fine is. is; known = λ k. tt; ways = refl }) (no_items ignore_case)
  parts_items options (part ∷ parts) stands good =
      let both = scalars_parts (part_regexp options part) (flat_map (part_regexp options) parts) good in
      same_items ignore_case _ (joined (part_sense options part) (parts_sense options parts)) (parts_sense options (part ∷ parts))
      (record { texts = same_texts _; count = refl; caps = λ text captures fine is. is; known = λ k. (All-head IsSilent part parts k, All-tail IsSilent part parts k); ways = refl })
      (append_items ignore_case (part_regexp options part) (flat_map (part_regexp options) parts) (part_sense options part) (parts_sense options parts)
      (part_items options part (All-head IsAlone part parts stands) both.0) (parts_items options parts (All-tail IsAlone part parts stands) both.1))
