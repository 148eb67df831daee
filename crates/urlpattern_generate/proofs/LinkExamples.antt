-- Worked examples of the text of parts with given captures.
use Rattle.std.proofs.Common.{◌≡◌, zero, suc, List, [], ◌∷◌, arith, inl, inr, refl, Some, None}
use Rattle.std.specs.Prelude.{codes}
use Rattle.urlpattern_generate.specs.Links.{MayCapture, MayCaptureAll, text_of_parts}
use Rattle.urlpattern_meaning.proofs.MeaningExamples.{joined_part, starred_part}
use Rattle.urlpattern_syntax.proofs.RegexpTextExamples.{group}
use Rattle.urlpattern_syntax.specs.declared.parser.PartModifier.TheVariants as modifiers
use Rattle.urlpattern_syntax.specs.declared.parser.PartType.TheVariants.{SegmentWildcard}
use Rattle.urlpattern_syntax.specs.Options.{default_options, pathname_options}
use Rattle.urlpattern_syntax.specs.Parts.{PartView, fixed_text}

-- ---- `/users/:id`

abbrev id_part : PartView
id_part = group SegmentWildcard (codes "/") (codes "id") [] modifiers.None

abbrev users : List PartView
users = fixed_text (codes "/users") modifiers.None ∷ id_part ∷ []

users_text : text_of_parts users (Some (codes "42") ∷ []) ≡ codes "/users/42"
users_text = refl

users_may : MayCaptureAll pathname_options users (Some (codes "42") ∷ [])
users_may = (tt, (inr (0, refl, (λ e. cc e, refl)), refl))

-- The group is not optional.
id_missing : ¬ MayCapture pathname_options id_part None
id_missing (inl (allowed, e)) = absurd (omega (arith, allowed))
id_missing (inr never) = never

-- The group may not capture a slash.
id_slash : ¬ MayCapture pathname_options id_part (Some (codes "4/2"))
id_slash (inl (allowed, e)) = absurd (omega (arith, allowed))
id_slash (inr (zero, allowed, (some, lacks))) = cc lacks
id_slash (inr (suc n, allowed, are)) = absurd (omega (arith, allowed))

-- ---- `/:id?`

abbrev optional : List PartView
optional = group SegmentWildcard (codes "/") (codes "id") [] modifiers.Optional ∷ []

optional_missing : text_of_parts optional (None ∷ []) ≡ []
optional_missing = refl

-- ---- `{a/:x/b}+`: copies are captured as one text

joined_text : text_of_parts (joined_part ∷ []) (Some (codes "1/ba/2") ∷ []) ≡ codes "a/1/ba/2/b"
joined_text = refl

joined_may : MayCaptureAll pathname_options (joined_part ∷ []) (Some (codes "1/ba/2") ∷ [])
joined_may = (inr (1, omega arith, (codes "1", codes "2", refl, (λ e. cc e, refl), (λ e. cc e, refl))), refl)

-- ---- `:x*`: the empty text is that of zero copies

starred_text : text_of_parts (starred_part ∷ []) (Some [] ∷ []) ≡ []
starred_text = refl

starred_may : MayCaptureAll default_options (starred_part ∷ []) (Some [] ∷ [])
starred_may = (inl (tt, refl), refl)

-- The group has to capture something, if only the empty text.
starred_missing : ¬ MayCapture default_options starred_part None
starred_missing (inl (allowed, e)) = cc e
starred_missing (inr never) = never

-- ---- `{a}+{b}?`: as few copies as are allowed

few_text : text_of_parts (fixed_text (codes "a") modifiers.OneOrMore ∷ fixed_text (codes "b") modifiers.Optional ∷ []) [] ≡ codes "a"
few_text = refl
