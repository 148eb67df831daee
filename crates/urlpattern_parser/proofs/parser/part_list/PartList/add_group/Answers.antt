use Rattle.std.proofs.Common.{◌≡◌, ◌++◌, ◌∷◌, [], ℕ, List, map, sym, ap, ◌∙◌, refl, inr, Vec, Global}
use Rattle.std.specs.Str.{chars}
use Rattle.std.proofs.lemmas.List.{map-append}
use Rattle.std.proofs.lemmas.Result.{err_from_is_err_and}
use Rattle.urlpattern_syntax.specs.declared.parser.Part.{Part}
use Rattle.urlpattern_syntax.specs.Errors.{error_view}
use Rattle.urlpattern_syntax.specs.Parsing.{PartListView, item_demands}
use Rattle.urlpattern_parser.specs.Readers.{group_item, part_list_view, placeholder_view}
use Rattle.urlpattern_parser.specs.PartLists.{IsDuplicate, list_names, parser_encoding, parser_options, then_group}
use Rattle.urlpattern_syntax.specs.Parts.{PartView, part_view, parts_view}
use Rattle.urlpattern_syntax.specs.Reading.{FirstFails, capture_part, name_or}
use Rattle.urlpattern_syntax.specs.RegexpText.{group_names}
use Rattle.urlpattern_syntax.specs.Text.{option_text, text_of}
use Rattle.urlpattern_parser.proofs.GivenNameLemmas.{knows_same, names_pending, names_with}
use Rattle.urlpattern_parser.proofs.GroupPieceLemmas.{adds_group, capture_view, name_fails, prefix_fails, suffix_fails}
use Rattle.urlpattern_syntax.proofs.ReadingLemmas.{MemoryOr-weaker}
use Rattle.urlpattern_parser.proofs.parser.part_list.PartList.add_group.Goals as goal

pub returns-in_err-name-clause-err : goal.returns-in_err-name-clause-err
returns-in_err-name-clause-err g c =
    let encoding = parser_encoding g.F.Fn c.args.parser.now in
    let items = then_group c.args.self.now c.args.before.now c.args.placeholder.now c.args.after.now c.args.modifier in
    let p = err_from_is_err_and c.from_residual-in_err-name.result c.from_residual-in_err-name.ensures.1 in
    rw (p.1, p.2) (MemoryOr-weaker (IsDuplicate c.add_pending.new.self c.args.placeholder.now.name) (FirstFails encoding (item_demands (list_names c.args.self.now) items)) c.in_err-name.field-0.0
    (name_fails (parser_options c.args.parser.now) encoding (part_list_view c.args.self.now) (part_list_view c.add_pending.new.self) c.in_ok-add_pending.ensures.ok c.in_ok-add_pending.ensures.number
    (chars c.args.before.now) (placeholder_view c.args.placeholder.now) (chars c.args.after.now) c.args.modifier)
    c.in_err-name.ensures.err)

pub returns-in_err-prefix-clause-err : goal.returns-in_err-prefix-clause-err
returns-in_err-prefix-clause-err g c =
    let p = err_from_is_err_and c.from_residual-in_err-prefix.result c.from_residual-in_err-prefix.ensures.1 in
    rw (p.1, p.2) (inr (prefix_fails (parser_options c.args.parser.now) (parser_encoding g.F.Fn c.args.parser.now) (part_list_view c.args.self.now) (part_list_view c.add_pending.new.self)
    c.in_ok-add_pending.ensures.ok c.in_ok-add_pending.ensures.number (chars c.args.before.now) (placeholder_view c.args.placeholder.now) (chars c.args.after.now) c.args.modifier
    (error_view c.in_err-prefix.field-0.0) c.in_ok-name.ensures.new c.in_err-prefix.ensures.err))

pub returns-in_err-suffix-clause-err : goal.returns-in_err-suffix-clause-err
returns-in_err-suffix-clause-err g c =
    let p = err_from_is_err_and c.from_residual-in_err-suffix.result c.from_residual-in_err-suffix.ensures.1 in
    rw (p.1, p.2) (inr (suffix_fails (parser_options c.args.parser.now) (parser_encoding g.F.Fn c.args.parser.now) (part_list_view c.args.self.now) (part_list_view c.add_pending.new.self)
    c.in_ok-add_pending.ensures.ok c.in_ok-add_pending.ensures.number (chars c.args.before.now) (placeholder_view c.args.placeholder.now) (chars c.args.after.now) c.args.modifier
    (text_of c.in_ok-prefix.prefix) (error_view c.in_err-suffix.field-0.0) c.in_ok-name.ensures.new c.in_ok-prefix.ensures.ok c.in_err-suffix.ensures.err))

pub returns-clause-ok : goal.returns-clause-ok
returns-clause-ok g c =
    let options = parser_options c.args.parser.now in
    let placeholder = placeholder_view c.args.placeholder.now in
    let before = text_of c.in_ok-prefix.prefix in
    let after = text_of c.in_ok-suffix.suffix in
    let modifier = c.args.modifier in
    let parts = c.new_name.new.self.parts.items in
    let part = λ (name : List ℕ). capture_part options before name placeholder.matched after modifier in
    let view = capture_view options before (text_of c.in_ok-name.name) placeholder.matched after modifier c.in_ok-kind.kind (text_of c.in_ok-kind.value) c.in_ok-kind.ensures.kind c.in_ok-kind.ensures.value in
    let pushed : Part = record { kind = c.in_ok-kind.kind; value = c.in_ok-kind.value; modifier = modifier; name = c.in_ok-name.name; prefix = c.in_ok-prefix.prefix; suffix = c.in_ok-suffix.suffix } in
    adds_group options (parser_encoding g.F.Fn c.args.parser.now) (part_list_view c.args.self.now) (part_list_view c.add_pending.new.self) c.in_ok-add_pending.ensures.ok c.in_ok-add_pending.ensures.number
    (chars c.args.before.now) placeholder (chars c.args.after.now) modifier
    (record { parts = parts_view c.push.new.parts.items; pending = text_of c.new_name.new.self.pending_fixed_value; number = c.new_name.new.self.next_numeric_name })
    before after c.in_ok-name.ensures.new c.in_ok-prefix.ensures.ok c.in_ok-suffix.ensures.ok
    (ap (map part_view) c.in_ok-push.ensures ∙ map-append part_view parts (pushed ∷ [])
    ∙ ap (λ (x : PartView). parts_view parts ++ x ∷ []) view
    ∙ ap (λ (list : Vec Part Global). parts_view list.items ++ part (text_of c.in_ok-name.name) ∷ []) c.in_ok-name.ensures.same.0
    ∙ ap (λ name. parts_view c.add_pending.new.self.parts.items ++ part name ∷ []) c.in_ok-name.ensures.name)
    (ap text_of c.in_ok-name.ensures.same.1)

pub new_name-requires-clause-knows : goal.new_name-requires-clause-knows
new_name-requires-clause-knows g c =
    let old = c.args.self.now in
    let mid = c.add_pending.new.self in
    knows_same _ _ old.given_names mid.given_names old.next_numeric_name mid.next_numeric_name
    (names_pending _ _ (part_list_view old) (part_list_view mid) c.in_ok-add_pending.ensures.ok)
    c.in_ok-add_pending.ensures.names c.in_ok-add_pending.ensures.number c.requires.knows

pub returns-clause-knows : goal.returns-clause-knows
returns-clause-knows g c =
    let old = part_list_view c.args.self.now in
    let mid = part_list_view c.add_pending.new.self in
    let given = c.new_name.new.self.given_names in
    let next = c.new_name.new.self.next_numeric_name in
    let new : PartListView = record { parts = parts_view c.push.new.parts.items; pending = text_of c.new_name.new.self.pending_fixed_value; number = next } in
    let name = name_or (option_text c.args.placeholder.now.name) in
    let group = group_item (chars c.args.before.now) c.args.placeholder.now (chars c.args.after.now) c.args.modifier old.number in
    let added : group_names new.parts ≡ group_names old.parts ++ name old.number ∷ [] = names_with _ _ old new (group ∷ []) (returns-clause-ok g c) in
    let before : group_names mid.parts ≡ group_names old.parts = names_pending _ _ old mid c.in_ok-add_pending.ensures.ok in
    let names : group_names new.parts ≡ group_names mid.parts ++ name mid.number ∷ [] =
    added ∙ ap (λ x. x ++ name old.number ∷ []) (sym before) ∙ ap (λ n. group_names mid.parts ++ name n ∷ []) (sym c.in_ok-add_pending.ensures.number) in
    knows_same (group_names mid.parts ++ name mid.number ∷ []) (group_names new.parts) given given next next names refl refl c.in_ok-name.ensures.knows
