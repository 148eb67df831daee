-- Worked examples of what the program prints.
use Rattle.std.proofs.Common.{◌≡◌, [], ◌∷◌, codes, refl}
use Rattle.urlpat_commands.specs.ComponentAnswers.{component_lines}

-- The output of `component pathname /users/:id`.
component_of_a_user : component_lines (codes "id" ∷ []) (codes "^/users(?:/([^/]+?))$") (codes "/users/:id")
    ≡ codes "names: id\nregexp: ^/users(?:/([^/]+?))$\npattern: /users/:id\n"
component_of_a_user = refl

-- A pattern without groups has no names.
component_without_groups : component_lines [] (codes "^/users$") (codes "/users") ≡ codes "names:\nregexp: ^/users$\npattern: /users\n"
component_without_groups = refl
