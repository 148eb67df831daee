-- From the text of separated runs to their steps.
use Rattle.std.proofs.Common.{◌≡◌, ℕ, Bor, ◌<◌, List, [], ◌∷◌, ◌++◌, ◌-◌, length, take, drop, Option, Some, None, Bool, true, refl, sym, ap, ap₂, ◌∙◌, subst, inl, inr, append-nil, append_assoc, codes, arith}
use Rattle.std.proofs.lemmas.List.{append_cancel_left, length-drop, set_split}
use Rattle.std.proofs.Math.Seq.{take-append_seam, drop-append_seam}
use Rattle.std.specs.Prelude.{◌≢◌, ◌⊎◌, IfNone, IfSome, IsSomeAnd, set}
use Rattle.std.specs.Str.{chars}
use Rattle.urlpattern_syntax.specs.RegexpText.{regexp_marks}
use Rattle.urlpattern_syntax.specs.Text.{is_among}
use Rattle.urlpattern_meaning.specs.Dialect.{AreItems, Character, IsCharacter, Items, character_of, character_text, items_text}
use Rattle.urlpattern_steps.specs.declared.step.LiteralString.{LiteralString}
use Rattle.urlpattern_steps.specs.declared.step.Step.{Step}
use Rattle.urlpattern_steps.specs.declared.step.Step.TheVariants.{Literal, Segments}
use Rattle.urlpattern_steps.specs.ReadSteps.{AreCharacters, AreLiterals, AreSegments, BeginsWithCaptured, EndsSegments, characters_text, literal_steps, BeginsWithCharacter, IsRunOf, IsRunStep, BeginsLastRun, SpellLiteral, last_run_text}
use Rattle.urlpattern_steps.proofs.PrefixLemmas.{ReadsRun, ByItself, IsEscapedAt, apart, character_kind, run_step, run_step_is}
use Rattle.urlpattern_steps.proofs.SegmentLemmas.{in_order, literal_steps-plain}
use Rattle.urlpattern_steps.proofs.StepGroupLemmas.{take_rest, drop-one}

-- ---- runs and separators

characters_text-last : (characters : List Character) (character : Character) (rest : List ℕ)
    → characters_text characters ++ (character_text character ++ rest) ≡ characters_text (characters ++ character ∷ []) ++ rest
characters_text-last [] character rest = ap (λ t. t ++ rest) (sym (append-nil (character_text character)))
characters_text-last (first ∷ characters) character rest =
    append_assoc (character_text first) (characters_text characters) (character_text character ++ rest)
    ∙ ap (λ t. character_text first ++ t) (characters_text-last characters character rest)
    ∙ sym (append_assoc (character_text first) (characters_text (characters ++ character ∷ [])) rest)

literal_steps-last : (characters : List Character) (character : Character) → literal_steps (characters ++ character ∷ []) ≡ literal_steps characters ++ Literal (character_of character) ∷ []
literal_steps-last [] character = refl
literal_steps-last (first ∷ characters) character = ap (λ l. Literal (character_of first) ∷ l) (literal_steps-last characters character)

all-last : (characters : List Character) (character : Character) → AreCharacters characters → IsCharacter character → AreCharacters (characters ++ character ∷ [])
all-last [] character all is = (is, tt)
all-last (first ∷ characters) character all is = (all.0, all-last characters character all.1 is)

-- The characters read so far, with their steps.
abbrev pub AreRead : (old items : List Step) → (text rest : List ℕ) → Type 0
AreRead old items text rest =
    (characters : List Character) × AreCharacters characters × (text ≡ characters_text characters ++ rest) × (items ≡ old ++ literal_steps characters)

pub read-more : (old items more : List Step) (text rest remaining : List ℕ) (c : ℕ) → AreRead old items text rest → BeginsWithCharacter IsCharacter rest c remaining
    → more ≡ items ++ Literal c ∷ [] → AreRead old more text remaining
read-more old items more text rest remaining c (characters, all, e, f) (character, is, same, g) h = (
  characters ++ character ∷ [],
  all-last characters character all is,
  e ∙ ap (λ t. characters_text characters ++ t) g ∙ characters_text-last characters character remaining,
  h ∙ ap (λ l. l ++ Literal c ∷ []) f ∙ append_assoc old (literal_steps characters) (Literal c ∷ [])
      ∙ ap (λ d. old ++ (literal_steps characters ++ Literal d ∷ [])) (sym same) ∙ ap (λ l. old ++ l) (sym (literal_steps-last characters character)),
)

-- The step of separated runs replaces the first step of the separator.
pub read-ends : (old items now : List Step) (first end : ℕ) (is_greedy : Bool) (separator : LiteralString) (text rest remaining : List ℕ) → AreRead old items text rest → first ≡ length old → now ≡ items
    → SpellLiteral (take (length now - first) (drop first now)) separator
    → BeginsLastRun end is_greedy rest remaining
    → (own : List Step) × EndsSegments end is_greedy own text remaining
    × (set items first (Segments (record { separator = separator; end = end; is_greedy = is_greedy })) ≡ old ++ own)
read-ends old items now first end is_greedy separator text rest remaining (characters, all, e, f) place same (others, own, plain, count) (second, are, is, g) =
    let behind : drop first items ≡ literal_steps characters = ap₂ drop place f ∙ drop-append_seam old (literal_steps characters) in
    let front : take first items ≡ old = ap₂ take place f ∙ take-append_seam old (literal_steps characters) in
    let whole : drop first items ≡ Literal separator.first ∷ others = ap (drop first) (sym same) ∙ sym (take_rest now first) ∙ own in
    let step : Step = Segments (record { separator = separator; end = end; is_greedy = is_greedy }) in
    let lt : first < length items = omega (arith, ap length whole, length-drop first items) in (
      step ∷ others,
      (
        characters,
        second,
        all,
        are,
        is,
        (
          separator.first,
          others,
          sym behind ∙ whole,
          ap (λ n. Segments (record { separator = record { first = separator.first; others = n }; end = end; is_greedy = is_greedy }) ∷ others) count,
        ),
        e ∙ ap (λ t. characters_text characters ++ t) g,
      ),
      set_split items first step lt ∙ ap₂ (λ a b. a ++ (step ∷ b)) front (drop-one first items (Literal separator.first) others whole),
    )

pub in_order_text : (characters : List Character) (items : Items) → items_text (in_order characters items) ≡ characters_text characters ++ items_text items
in_order_text [] items = refl
in_order_text (character ∷ characters) items =
    ap₂ (λ a b. a ++ b) (append-nil (character_text character)) (in_order_text characters items) ∙ sym (append_assoc (character_text character) (characters_text characters) (items_text items))

pub in_order_allowed : (characters : List Character) (items : Items) → AreCharacters characters → AreItems items → AreItems (in_order characters items)
in_order_allowed [] items all are = are
in_order_allowed (character ∷ characters) items all are = (all.0, tt, in_order_allowed characters items all.1 are)

-- The spelling of separated runs.
pub spelled_segments : (first between second rest : List ℕ)
    → (codes "((?:" ++ (first ++ codes ")(?:")) ++ (between ++ (codes "(?:" ++ (second ++ (codes "))*)" ++ rest))))
    ≡ ((codes "(" ++ ((((codes "(?:" ++ (first ++ codes ")")) ++ []) ++ (((codes "(?:" ++ ((between ++ (((codes "(?:" ++ (second ++ codes ")")) ++ []) ++ [])) ++ codes ")")) ++ codes "*") ++ [])) ++ codes ")")) ++ []) ++ rest
spelled_segments first between second rest = simp (append_assoc, append-nil)

-- ---- the remaining text

-- The text after a prefix is read.
pub cut_read : (read : Option (Bor (List ℕ))) (front text rest : List ℕ) → IfSome read (λ found. text ≡ front ++ chars found.now) → IfNone read ((rest : List ℕ) → text ≢ front ++ rest)
    → text ≡ front ++ rest → IsSomeAnd read (λ found. chars found.now ≡ rest)
cut_read None front text rest some none e = absurd (none rest e)
cut_read (Some found) front text rest some none e = append_cancel_left front (chars found.now) rest (sym some ∙ e)

-- The characters before a `(` that are not read yet, with their steps.
abbrev pub AreLeft : (old items : List Step) → (text rest : List ℕ) → Type 0
AreLeft old items text rest =
    (characters : List Character) (behind : List ℕ) → AreCharacters characters → text ≡ characters_text characters ++ (codes "(" ++ behind)
    → (left : List Character) × AreCharacters left × (rest ≡ characters_text left ++ (codes "(" ++ behind)) × (items ++ literal_steps left ≡ old ++ literal_steps characters)

no_character : (text behind : List ℕ) (c : ℕ) (rest : List ℕ) → text ≡ codes "(" ++ behind → ¬ BeginsWithCharacter IsCharacter text c rest
no_character text behind c rest e begins = by (character_kind IsCharacter text c rest begins)
  where
    by : ByItself IsCharacter text c rest ⊎ IsEscapedAt IsCharacter text c rest → ⊥
    by (inl (is, f)) = let same : 40 ≡ c = cc in is (subst (λ d. is_among regexp_marks d ≡ true) same refl)
    by (inr (is, f)) = apart 40 92 behind (c ∷ rest) refl (sym e ∙ f)

first_left : (character : Character) (characters : List Character) (rest behind : List ℕ) → IsCharacter character → rest ≡ (character_text character ++ characters_text characters) ++ behind
    → BeginsWithCharacter IsCharacter rest (character_of character) (characters_text characters ++ behind)
first_left character characters rest behind is e = (character, is, refl, e ∙ append_assoc (character_text character) (characters_text characters) behind)

pub left-more : (old items more : List Step) (text rest remaining : List ℕ) (c : ℕ) → AreLeft old items text rest → BeginsWithCharacter IsCharacter rest c remaining
    → ((d : ℕ) (behind : List ℕ) → BeginsWithCharacter IsCharacter rest d behind → (c ≡ d) × (remaining ≡ behind)) → more ≡ items ++ Literal c ∷ [] → AreLeft old more text remaining
left-more old items more text rest remaining c left begins reads added characters behind all e = by (left characters behind all e)
  where
    by : ((left : List Character) × AreCharacters left × (rest ≡ characters_text left ++ (codes "(" ++ behind)) × (items ++ literal_steps left ≡ old ++ literal_steps characters))
        → (left : List Character) × AreCharacters left × (remaining ≡ characters_text left ++ (codes "(" ++ behind)) × (more ++ literal_steps left ≡ old ++ literal_steps characters)
    by ([], are, f, steps) = absurd (no_character rest behind c remaining f begins)
    by (character ∷ others, are, f, steps) =
        let same = reads (character_of character) (characters_text others ++ (codes "(" ++ behind)) (first_left character others rest (codes "(" ++ behind) are.0 f) in (
          others,
          are.1,
          same.1,
          ap (λ l. l ++ literal_steps others) added
              ∙ append_assoc items (Literal c ∷ []) (literal_steps others)
              ∙ ap (λ d. items ++ Literal d ∷ literal_steps others) same.0
              ∙ steps,
        )

-- No character is left, if none is read.
pub left-ended : (old items : List Step) (text rest : List ℕ) → AreLeft old items text rest → ((d : ℕ) (behind : List ℕ) → ¬ BeginsWithCharacter IsCharacter rest d behind)
    → (characters : List Character) (behind : List ℕ) → AreCharacters characters → text ≡ characters_text characters ++ (codes "(" ++ behind)
    → (rest ≡ codes "(" ++ behind) × (items ≡ old ++ literal_steps characters)
left-ended old items text rest left none characters behind all e = by (left characters behind all e)
  where
    by : ((left : List Character) × AreCharacters left × (rest ≡ characters_text left ++ (codes "(" ++ behind)) × (items ++ literal_steps left ≡ old ++ literal_steps characters))
        → (rest ≡ codes "(" ++ behind) × (items ≡ old ++ literal_steps characters)
    by ([], are, f, steps) = (f, sym (append-nil items) ∙ steps)
    by (character ∷ others, are, f, steps) = absurd (none (character_of character) _ (first_left character others rest (codes "(" ++ behind) are.0 f))

-- The steps of a separator.
pub steps_between : (old items now : List Step) (first end : ℕ) (is_greedy : Bool) (characters : List Character) (own : List Step) → items ≡ old ++ literal_steps characters → first ≡ length old
    → now ≡ items → AreSegments end is_greedy characters own → (c : ℕ) × (others : List Step) × (take (length now - first) (drop first now) ≡ Literal c ∷ others) × AreLiterals others
steps_between old items now first end is_greedy characters own f place same (c, others, steps, is) = (
  c,
  others,
  take_rest now first ∙ ap (drop first) same ∙ ap₂ drop place f ∙ drop-append_seam old (literal_steps characters) ∙ steps,
  subst AreLiterals steps (literal_steps-plain characters),
)

-- The last of separated runs.
pub last_run : (end : ℕ) (is_greedy : Bool) (items : Items) (text inner rest : List ℕ) → AreItems items → IsRunOf end is_greedy items
    → text ≡ last_run_text items rest → text ≡ codes "(?:" ++ inner → BeginsWithCaptured inner (run_step end is_greedy) (codes "))*)" ++ rest)
last_run end is_greedy items text inner rest are is e f = (items, are, (run_step_is end is_greedy items is).1, cc)

-- The last of separated runs is read, with the rest.
pub last_read : (end : ℕ) (is_greedy : Bool) (items : Items) (text inner rest : List ℕ) (single : Step) (behind : List ℕ) → AreItems items → IsRunOf end is_greedy items → text ≡ last_run_text items rest
    → text ≡ codes "(?:" ++ inner → ReadsRun inner single behind → IsRunStep end is_greedy single × (behind ≡ codes "))*)" ++ rest)
last_read end is_greedy items text inner rest single behind are is e f reads =
    let step = (run_step_is end is_greedy items is).0 in
    let same = reads end is_greedy (run_step end is_greedy) (codes "))*)" ++ rest) step (last_run end is_greedy items text inner rest are is e f) in
    (subst (IsRunStep end is_greedy) (sym same.0) step, same.1)
