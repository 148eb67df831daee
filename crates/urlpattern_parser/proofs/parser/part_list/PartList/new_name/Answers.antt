use Rattle.std.proofs.Common.{sym, ap, ◌∙◌, subst, arith, map, rules}
use Rattle.std.specs.Str.{chars, IsUtf8}
use Rattle.std.proofs.lemmas.Fmt.{IsAscii-decimal}
use Rattle.std.proofs.lemmas.Str.{chars-IsAscii}
use Rattle.urlpattern_syntax.specs.Parsing.{BeginsAsName, IsNameGiven}
use Rattle.urlpattern_syntax.specs.Parts.{part_view}
use Rattle.urlpattern_syntax.specs.Reading.{name_or}
use Rattle.urlpattern_syntax.specs.RegexpText.{group_names}
use Rattle.urlpattern_syntax.specs.Text.{option_text}
use Rattle.urlpattern_parser.proofs.GivenNameLemmas.{knows_name, knows_number}
use Rattle.urlpattern_parser.proofs.parser.part_list.PartList.new_name.Goals as goal

pub returns-in_ok-number-in-None-clause-name : goal.returns-in_ok-number-in-None-clause-name
returns-in_ok-number-in-None-clause-name c =
    ap chars c.in_ok-number-in-None.ensures ∙ chars-IsAscii _ (IsAscii-decimal c.args.self.now.next_numeric_name (omega (arith, c.requires.room)))
    ∙ ap (λ name. name_or (option_text name) c.args.self.now.next_numeric_name) (sym c.in-None.is)

pub returns-in_ok-number-in-None-clause-knows : goal.returns-in_ok-number-in-None-clause-knows
returns-in_ok-number-in-None-clause-knows c =
    let list = c.args.self.now in
    rw c.in-None.is (knows_number (group_names (map part_view list.parts.items)) list.given_names list.next_numeric_name c.requires.knows (omega (arith, c.requires.room)))

pub returns-in_ok-add_name-in-Some-clause-knows : goal.returns-in_ok-add_name-in-Some-clause-knows
returns-in_ok-add_name-in-Some-clause-knows c =
    let list = c.args.self.now in
    let name = c.in-Some.name in
    let given : BeginsAsName (chars name.now) = subst (λ found. IsNameGiven (option_text found)) c.in-Some.is c.requires.named in
    let utf8 : IsUtf8 name.now = search rules in
    rw c.in-Some.is (knows_name (group_names (map part_view list.parts.items)) list.given_names list.next_numeric_name c.requires.knows c.add_name.new.self name utf8 given c.in_ok-add_name-in-Some.ensures)
