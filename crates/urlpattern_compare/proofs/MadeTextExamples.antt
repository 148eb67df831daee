-- Worked examples of texts that are made from parts alone, and of fronts.
use Rattle.std.proofs.Common.{◌≡◌, [], ◌∷◌, Some, codes, refl}
use Rattle.urlpattern_compare.specs.Examples.{IsExampleOf, shortest_copy}
use Rattle.urlpattern_compare.specs.Fronts.{front_of}
use Rattle.urlpattern_syntax.specs.Options.{OptionsView, default_options}
use Rattle.urlpattern_syntax.specs.Parts.{PartView}
use Rattle.urlpattern_syntax.specs.declared.parser.{PartModifier.PartModifier, PartType.PartType}

-- The parts of the path `/users/:id`.
abbrev users : PartView
users = record { kind = PartType.FixedText; value = codes "/users"; modifier = PartModifier.None; name = []; prefix = []; suffix = [] }

abbrev id : PartView
id = record { kind = PartType.SegmentWildcard; value = []; modifier = PartModifier.None; name = codes "id"; prefix = codes "/"; suffix = [] }

abbrev path_options : OptionsView
path_options = record default_options { delimiter = Some 47 }

-- A fixed text is copied, and a segment is a single letter.
a_fixed_text_is_copied : shortest_copy 97 PartType.FixedText users ≡ codes "/users"
a_fixed_text_is_copied = refl

a_segment_is_a_letter : shortest_copy 97 PartType.SegmentWildcard id ≡ codes "/a"
a_segment_is_a_letter = refl

-- The text `/users/a` is an example of `/users/:id`.
a_user_is_an_example : IsExampleOf path_options (users ∷ id ∷ []) (codes "/users/a")
a_user_is_an_example = record {
  means = (
    codes "/users",
    codes "/a",
    refl,
    (1, refl, (codes "/users", [], refl, refl, refl)),
    (codes "/a", [], refl, (1, refl, (codes "/a", [], refl, (codes "a", refl, ((λ e. absurd cc), refl)), refl)), refl),
  );
  line = record { scalars = refl; plain = refl };
}

-- The front of `/users/:id` is `/users`, that of `/:id` is `/`, and `{/:id}?` has none.
the_front_of_users : front_of (users ∷ id ∷ []) ≡ codes "/users"
the_front_of_users = refl

the_front_of_a_segment : front_of (id ∷ []) ≡ codes "/"
the_front_of_a_segment = refl

no_front_of_what_may_be_left_out : front_of (record id { modifier = PartModifier.Optional } ∷ []) ≡ []
no_front_of_what_may_be_left_out = refl
