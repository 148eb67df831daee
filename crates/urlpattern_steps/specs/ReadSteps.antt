-- How a regular expression is parsed into steps.
use Rattle.std.specs.Prelude.{◌≡◌, ◌⊎◌, ℕ, Bool, true, false, length, List, [], ◌∷◌, ◌++◌, take, drop, codes, Option, Some, IfSome, IsSomeAnd}
use Rattle.std.specs.Borrow.{Bor}
use Rattle.std.specs.Global.{Global}
use Rattle.std.specs.declared.vec.Vec.{Vec}
use Rattle.std.specs.Str.{chars}
use Rattle.urlpattern_steps.specs.declared.step_tokens.GroupQuantifier.{GroupQuantifier}
use Rattle.urlpattern_steps.specs.declared.step_tokens.GroupQuantifier.TheVariants as times
use Rattle.urlpattern_steps.specs.declared.step_tokens.StepToken.{StepToken}
use Rattle.urlpattern_steps.specs.declared.step_tokens.StepToken.TheVariants.{Open, Close, Step as One, OptionalStep, FirstSegment}
use Rattle.urlpattern_steps.specs.declared.step.Step.{Step}
use Rattle.urlpattern_steps.specs.declared.step.LiteralString.{LiteralString}
use Rattle.urlpattern_steps.specs.declared.step.Step.TheVariants.{Literal, LazyRun, DotStar, OptionalGroup, GreedyRun, RepeatedLiteral, Segments}
use Rattle.urlpattern_steps.specs.Walk.{capture_count, walk}
use Rattle.urlpattern_meaning.specs.Dialect.{AllowsGroups, AnyBut, AreItems, Atom, Captured, Character, Dot, Grouped, IsAtom, IsCharacter, IsTreeOf, Item, Items, LazyOneOrMore, Nothing, OneOrMore, Quantifier, ZeroOrMore, atom_text, character_of, character_text, group_count, items_text, quantifier_text}
use Rattle.urlpattern_meaning.specs.Dialect as dialect
use Rattle.urlpattern_meaning.specs.Ways.{first_way_by}
use Rattle.urlpattern_syntax.specs.Text.{is_among, line_feed, BeginsWith}

-- ---- characters

-- The text begins with a spelling of the character `c` for which `Is` holds, followed by `rest`.
abbrev pub BeginsWithCharacter : (Is : Character → Type 0) → (text : List ℕ)
    → (c : ℕ) → (rest : List ℕ) → Type 0
BeginsWithCharacter Is text c rest =
    (character : Character) × Is character
    × (character_of character ≡ c)
    × (text ≡ character_text character ++ rest)

-- `read`, the result of reading a text, is Some of the value `it` and the remaining text `rest`.
abbrev pub IsRead : {A : Type 0} → Option (A × Bor (List ℕ)) → A → (rest : List ℕ) → Type 0
IsRead read it rest = IsSomeAnd read (λ found. (found.0 ≡ it) × (chars found.1.now ≡ rest))

-- `read`, the result of reading a text, is Some of the remaining text `rest`.
abbrev pub IsLeft : Option (Bor (List ℕ)) → (rest : List ℕ) → Type 0
IsLeft read rest = IsSomeAnd read (λ remaining. chars remaining.now ≡ rest)

-- The text does not begin with a quantifier.
abbrev pub IsUnquantified : List ℕ → Type 0
IsUnquantified text = ¬ BeginsWith (is_among (codes "?*+")) text

-- ---- steps

-- The atom matches any one character except `c`.
abbrev pub IsAllBut : ℕ → Atom → Type 0
IsAllBut c Dot = c ≡ line_feed
IsAllBut c (AnyBut character) = character_of character ≡ c
IsAllBut c atom = ⊥

-- The items are one run of characters without `end`: greedy and possibly empty, or lazy and not
-- empty.
abbrev pub IsRunOf : (end : ℕ) → (is_greedy : Bool) → Items → Type 0
IsRunOf end true items = (end ≡ line_feed) × (items ≡ Item Dot ZeroOrMore Nothing)
IsRunOf end false items = (one : Atom) × IsAllBut end one × (items ≡ Item one LazyOneOrMore Nothing)

-- The step captures a run without `end`: `DotStar` if greedy, otherwise `LazyRun`.
abbrev pub IsRunStep : (end : ℕ) → (is_greedy : Bool) → Step → Type 0
IsRunStep end true step = (end ≡ line_feed) × (step ≡ DotStar)
IsRunStep end false step = step ≡ LazyRun end

-- If the step is a `LazyRun` or `DotStar`, `found` is the character that ends its run and whether
-- the run is greedy.
abbrev pub FindsRun : Step → Option (ℕ × Bool) → Type 0
FindsRun step found =
    (end : ℕ) (is_greedy : Bool) → IsRunStep end is_greedy step
    → IsSomeAnd found (λ run. (run.0 ≡ end) × (run.1 ≡ is_greedy))

-- `may_be_empty` says whether a repeat of a run may be empty: under `*` it may, and under `+` if
-- the run itself may, that is, if it is greedy. Other quantifiers do not repeat a run.
abbrev pub AllowsEmptyRun : (is_greedy : Bool) → Quantifier → (may_be_empty : Bool) → Type 0
AllowsEmptyRun is_greedy ZeroOrMore may_be_empty = may_be_empty ≡ true
AllowsEmptyRun is_greedy OneOrMore may_be_empty = may_be_empty ≡ is_greedy
AllowsEmptyRun is_greedy quantifier may_be_empty = ⊥

-- The step is the one for this atom: a literal character, a captured run or a captured repeat of a
-- run.
abbrev pub IsStepOf : Step → Atom → Type 0
IsStepOf (Literal c) atom =
    (character : Character) × (character_of character ≡ c) × (atom ≡ dialect.Literal character)
IsStepOf (LazyRun c) atom =
    (one : Atom) × IsAllBut c one × (atom ≡ Captured (Item one LazyOneOrMore Nothing))
IsStepOf DotStar atom = atom ≡ Captured (Item Dot ZeroOrMore Nothing)
IsStepOf (OptionalGroup group) atom = ⊥
IsStepOf (GreedyRun run) atom =
    (items : Items) × (is_greedy : Bool)
    × (quantifier : Quantifier) × IsRunOf run.end is_greedy items
    × AllowsEmptyRun is_greedy quantifier run.may_be_empty
    × (atom ≡ Captured (Item (Grouped items) quantifier Nothing))
IsStepOf (RepeatedLiteral copies) atom = ⊥
IsStepOf (Segments segments) atom = ⊥

-- The text is the spelling of an atom that has this step.
abbrev pub SpellsStep : Step → List ℕ → Type 0
SpellsStep step text = (atom : Atom) × IsAtom atom × IsStepOf step atom × (text ≡ atom_text atom)

-- The text begins with the body of a capturing group that has this step, followed by `rest`.
abbrev pub BeginsWithCaptured : (text : List ℕ) → Step → (rest : List ℕ) → Type 0
BeginsWithCaptured text step rest =
    (items : Items) × AreItems items
    × IsStepOf step (Captured items)
    × (text ≡ items_text items ++ rest)

-- If the text begins with the body of a capturing group that has a step, `read` is the step and the
-- text after the body.
abbrev pub ReadsCaptured : (text : List ℕ) → Option (Step × Bor (List ℕ)) → Type 0
ReadsCaptured text read =
    (step : Step) (rest : List ℕ) → BeginsWithCaptured text step rest → IsRead read step rest

-- If the text begins with a run, `read` is the step that captures the run and the text after it.
abbrev pub ReadsRuns : (text : List ℕ) → Option (Step × Bor (List ℕ)) → Type 0
ReadsRuns text read =
    (end : ℕ) (is_greedy : Bool) (step : Step) (rest : List ℕ) → IsRunStep end is_greedy step
    → BeginsWithCaptured text step rest → IsRead read step rest

-- `step` captures a repeat of the run that `run` captures: a group of its items under the
-- quantifier, which may follow such a group.
abbrev pub IsRepeatOf : (run : Step) → Quantifier → (step : Step) → Type 0
IsRepeatOf run quantifier step =
    (items : Items) → IsStepOf run (Captured items)
    → AllowsGroups quantifier (group_count items)
    × IsStepOf step (Captured (Item (Grouped items) quantifier Nothing))

-- If `run` is the step of a run that the quantifier repeats, `made` is the greedy run of the
-- repeat.
abbrev pub RepeatsRuns : (run : Step) → Quantifier → (made : Option Step) → Type 0
RepeatsRuns run quantifier made =
    (end : ℕ) (is_greedy may_be_empty : Bool) → IsRunStep end is_greedy run
    → AllowsEmptyRun is_greedy quantifier may_be_empty
    → made ≡ Some (GreedyRun (record { end = end; may_be_empty = may_be_empty }))

-- The quantifier, in the dialect's definitions, of a `GroupQuantifier`.
abbrev pub quantifier_of : GroupQuantifier → Quantifier
quantifier_of times.Once = dialect.Once
quantifier_of times.Optional = dialect.Optional
quantifier_of times.ZeroOrMore = dialect.ZeroOrMore
quantifier_of times.OneOrMore = dialect.OneOrMore

-- The spelling of the quantifier of a group.
abbrev pub group_quantifier_text : GroupQuantifier → List ℕ
group_quantifier_text times = quantifier_text (quantifier_of times)

-- The text is the beginning of separated runs up to the separator: `((?:`, a run and `)(?:`.
abbrev pub BeginsSegments : (end : ℕ) → (is_greedy : Bool) → (text : List ℕ) → Type 0
BeginsSegments end is_greedy text =
    (items : Items) × AreItems items
    × IsRunOf end is_greedy items
    × (text ≡ codes "((?:" ++ (items_text items ++ codes ")(?:"))

-- The text is a spelling of the token.
abbrev pub IsToken : StepToken → List ℕ → Type 0
IsToken Open text = text ≡ codes "(?:"
IsToken (Close times) text = text ≡ codes ")" ++ group_quantifier_text times
IsToken (One step) text = SpellsStep step text
IsToken (FirstSegment end is_greedy) text = BeginsSegments end is_greedy text
IsToken (OptionalStep step) text =
    (front : List ℕ) × (capture_count (step ∷ []) ≡ 1)
    × SpellsStep step front
    × (text ≡ front ++ codes "?")

-- The text begins with the token, followed by `rest`.
abbrev pub BeginsWithRegexpToken : (text : List ℕ) → StepToken → (rest : List ℕ) → Type 0
BeginsWithRegexpToken text token rest =
    (front : List ℕ) × IsToken token front × (text ≡ front ++ rest)

-- If the text begins with a token that no quantifier follows, `read` is the token and the text
-- after it.
abbrev pub ReadsRegexpTokens : (text : List ℕ) → Option (StepToken × Bor (List ℕ)) → Type 0
ReadsRegexpTokens text read =
    (token : StepToken) (rest : List ℕ) → BeginsWithRegexpToken text token rest
    → IsUnquantified rest
    → IsRead read token rest

-- If the text begins with a token `FirstSegment`, `read` is the token and the text after it.
abbrev pub ReadsFirstSegments : (text : List ℕ) → Option (StepToken × Bor (List ℕ)) → Type 0
ReadsFirstSegments text read =
    (end : ℕ) (is_greedy : Bool) (rest : List ℕ)
    → BeginsWithRegexpToken text (FirstSegment end is_greedy) rest
    → IsRead read (FirstSegment end is_greedy) rest

-- ---- groups

-- Each step is a literal character.
abbrev pub AreLiterals : List Step → Type 0
AreLiterals [] = Unit {0}
AreLiterals (Literal c ∷ steps) = AreLiterals steps
AreLiterals (step ∷ steps) = ⊥

-- The steps are literals and spell `text`: its first character, then as many as `text` has others.
abbrev pub SpellLiteral : List Step → LiteralString → Type 0
SpellLiteral steps text =
    (others : List Step) × (steps ≡ Literal text.first ∷ others)
    × AreLiterals others
    × (text.others ≡ length others)

-- The steps `own` spell a literal, and the steps `group` are for a greedy repeat of that literal:
-- any number of copies if `allows_zero`, otherwise one or more.
abbrev pub AreCopySteps : (allows_zero : Bool) → (own group : List Step) → Type 0
AreCopySteps allows_zero own group =
    (c : ℕ) × (others : List Step) × (own ≡ Literal c ∷ others) × AreLiterals others
    × (group
    ≡ RepeatedLiteral
    (record { text = record { first = c; others = length others }; allows_zero = allows_zero })
    ∷ others)

-- `group` has the steps of a quantified group whose body has the steps `own`, at least one. Under
-- `*` and `+`, the body has to be a literal.
abbrev pub IsSomeGroup : GroupQuantifier → (own group : List Step) → Type 0
IsSomeGroup times.Once own group = group ≡ own
IsSomeGroup times.Optional own group =
    group ≡ OptionalGroup (record { steps = length own; captures = capture_count own }) ∷ own
IsSomeGroup times.ZeroOrMore own group = AreCopySteps true own group
IsSomeGroup times.OneOrMore own group = AreCopySteps false own group

-- `group` has the steps of a quantified group whose body has the steps `own`; an empty body may
-- have no steps in its group.
abbrev pub IsStepGroup : GroupQuantifier → (own group : List Step) → Type 0
IsStepGroup times own group = ((own ≡ []) × (group ≡ [])) ⊎ IsSomeGroup times own group

-- From `old` to `new`, the steps from index `first` on are replaced by those of a group. `Is` holds
-- of the replaced steps and those of the group.
abbrev pub AreGrouped : (Is : (own group : List Step) → Type 0) → (first : ℕ)
    → (old new : Vec Step Global) → Type 0
AreGrouped Is first old new =
    (group : List Step) × Is (drop first old.items) group
    × (new.items ≡ take first old.items ++ group)

-- ---- segments

-- The spellings of the characters, concatenated.
abbrev pub characters_text : List Character → List ℕ
characters_text [] = []
characters_text (character ∷ characters) = character_text character ++ characters_text characters

-- Each character is spelled as it may be outside of a class.
abbrev pub AreCharacters : List Character → Type 0
AreCharacters [] = Unit {0}
AreCharacters (character ∷ characters) = IsCharacter character × AreCharacters characters

-- A literal step for each character.
abbrev pub literal_steps : List Character → List Step
literal_steps [] = []
literal_steps (character ∷ characters) = Literal (character_of character) ∷ literal_steps characters

-- `own` has the steps of runs without `end` that are joined by these characters, of which there is
-- at least one.
abbrev pub AreSegments : (end : ℕ) → (is_greedy : Bool) → List Character
    → (own : List Step) → Type 0
AreSegments end is_greedy characters own =
    (c : ℕ) × (others : List Step) × (literal_steps characters ≡ Literal c ∷ others)
    × (own
    ≡ Segments (record {
      separator = record { first = c; others = length others };
      end = end;
      is_greedy = is_greedy;
    })
    ∷ others)

-- The text of separated runs, `((?:RUN)(?:SEPARATOR(?:RUN))*)`, after the separator: `(?:`, the
-- last run, which has these items, and `))*)`. `rest` follows.
abbrev pub last_run_text : Items → (rest : List ℕ) → List ℕ
last_run_text items rest = codes "(?:" ++ (items_text items ++ (codes "))*)" ++ rest))

-- The text begins with what follows the separator of separated runs, as `last_run_text` says, for a
-- run without `end`. `rest` comes after it.
abbrev pub BeginsLastRun : (end : ℕ) → (is_greedy : Bool) → (text rest : List ℕ) → Type 0
BeginsLastRun end is_greedy text rest =
    (items : Items) × AreItems items
    × IsRunOf end is_greedy items
    × (text ≡ last_run_text items rest)

-- If the text begins with what follows the separator of separated runs, as `last_run_text` says,
-- for a run without `end`, `read` is the text after it.
abbrev pub ReadsLast : (end : ℕ) → (is_greedy : Bool) → (text : List ℕ) → Option (Bor (List ℕ))
    → Type 0
ReadsLast end is_greedy text read =
    (items : Items) (rest : List ℕ) → AreItems items → IsRunOf end is_greedy items
    → text ≡ last_run_text items rest → IsLeft read rest

-- The text begins with the remainder of separated runs, whose steps are `own`, followed by `rest`.
-- The remainder is the separator and what `last_run_text` says of the last run.
abbrev pub EndsSegments : (end : ℕ) → (is_greedy : Bool) → (own : List Step) → (text rest : List ℕ)
    → Type 0
EndsSegments end is_greedy own text rest =
    (characters : List Character) × (items : Items)
    × AreCharacters characters
    × AreItems items
    × IsRunOf end is_greedy items
    × AreSegments end is_greedy characters own
    × (text ≡ characters_text characters ++ last_run_text items rest)

-- If `left` is a text, it follows in `text` the remainder of separated runs, as `EndsSegments`
-- says, and `new` has the steps of the runs after those of `old`.
abbrev pub AddsSegments : (end : ℕ) → (is_greedy : Bool)
    → (old new : Vec Step Global) → (text : List ℕ) → (left : Option (Bor (List ℕ))) → Type 0
AddsSegments end is_greedy old new text left =
    IfSome left (λ rest.
    (own : List Step) × EndsSegments end is_greedy own text (chars rest.now)
    × (new.items ≡ old.items ++ own))

-- If the text begins with the remainder of separated runs, as `EndsSegments` says, `read` is the
-- text after it.
abbrev pub ReadsSegments : (end : ℕ) → (is_greedy : Bool) → (text : List ℕ) → Option (Bor (List ℕ))
    → Type 0
ReadsSegments end is_greedy text read =
    (own : List Step) (rest : List ℕ) → EndsSegments end is_greedy own text rest → IsLeft read rest

-- ---- expressions

-- `regexp` is an expression of the dialect, and on each text `steps` capture what a backtracking
-- engine finds first for it, whether case is ignored or not.
pub record AreStepsOf (regexp : List ℕ) (steps : List Step) : Type 0 where
  pub tree : Items
  pub is_tree : IsTreeOf regexp tree
  pub answers : (ignore_case : Bool) (text : List ℕ)
      → walk ignore_case steps text ≡ first_way_by ignore_case tree text
