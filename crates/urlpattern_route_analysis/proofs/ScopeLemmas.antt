-- The pattern of URLs that begin with a scope.
use Rattle.std.proofs.Common.{◌≡◌, ◌≢◌, ◌∙◌, ◌+◌, ◌++◌, ℕ, Bool, Bor, true, false, List, [], ◌∷◌, None, Global, Option, Some, Vec, ap, arith, length, refl, subst, sym}
use Rattle.std.proofs.lemmas.List.{length-append}
use Rattle.std.proofs.lemmas.List.Elements.{All-cons, All-nil}
use Rattle.std.specs.Prelude.{◌<◌, codes, is_some, option_copied, if◌then◌else◌}
use Rattle.urlpattern_compare.specs.Comparing.{anything_part}
use Rattle.urlpattern_compare.specs.declared.common_texts.PatternAutomata.{PatternAutomata}
use Rattle.urlpattern_components.specs.declared.eight.ComponentName.{ComponentName}
use Rattle.urlpattern_components.specs.declared.eight.ComponentName.TheVariants.{Hash, Hostname, Password, Pathname, Port, Protocol, Search, Username}
use Rattle.urlpattern_route_analysis.specs.CasePatterns.{AreWithin}
use Rattle.urlpattern_route_analysis.specs.Cases.{IsWithin}
use Rattle.urlpattern_route_analysis.proofs.FormulaLemmas.{atom-formula, none-formula}
use Rattle.urlpattern_route_analysis.specs.Formulas.{FormulaView, formula, formula_view, formula_views, listed, no_formulas, of_atom, of_name, of_none, of_url}
use Rattle.urlpattern_route_analysis.specs.Scopes.{is_open, outside_of, prefix_parts, scope_text}
use Rattle.urlpattern_route_analysis.specs.declared.formula.Atom.TheVariants as atoms
use Rattle.urlpattern_route_analysis.specs.declared.formula.Formula.{Atom as OfAtom, Formula, NoneOf}
use Rattle.urlpattern_syntax.specs.Parts.{PartView}
use Rattle.urlpattern_syntax.specs.declared.parser.{PartModifier.PartModifier, PartType.PartType}
use Rattle.urlpattern_urls.specs.Unlike.{part_of}

pub other_text : (name : ComponentName) (text : List ℕ) → name ≢ Hash → scope_text name text ≡ text
other_text Hash text other = absurd (other refl)
other_text Protocol text other = refl
other_text Username text other = refl
other_text Password text other = refl
other_text Hostname text other = refl
other_text Port text other = refl
other_text Pathname text other = refl
other_text Search text other = refl

pub copied_some : {X : Type 0} (found : Option (Bor X)) → is_some found ≡ is_some (option_copied found)
copied_some None = refl
copied_some (Some it) = refl

module _ (name : ComponentName) (text own : List ℕ) (has_query : Bool) (test : Bool) (one : List PartView) (same : own ≡ scope_text name text) (tests : test ≡ is_open name has_query)
    (first : one ≡ part_of PartType.FixedText own PartModifier.None ∷ [])
  where
    abbrev more_if : Bool → List PartView
    more_if more = part_of PartType.FixedText (scope_text name text) PartModifier.None ∷ (if more then anything_part ∷ [] else [])

    fixed : one ≡ part_of PartType.FixedText (scope_text name text) PartModifier.None ∷ []
    fixed = first ∙ ap (λ (t : List ℕ). part_of PartType.FixedText t PartModifier.None ∷ []) same

    -- Nothing may be after the scope.
    pub closed_parts : test ≡ false → one ≡ prefix_parts name text has_query
    closed_parts closed = fixed ∙ ap more_if (sym closed ∙ tests)

    -- Anything may be after it.
    pub open_parts : (both : List PartView) → test ≡ true → both ≡ one ++ anything_part ∷ [] → both ≡ prefix_parts name text has_query
    open_parts both opened is = is ∙ ap (λ (l : List PartView). l ++ anything_part ∷ []) fixed ∙ ap more_if (sym opened ∙ tests)

-- ---- what is outside of a scope

-- The formula, as it is put together.
pub outside_view : (index : ℕ) (navigation worker shared : Formula) (inner outer : Vec Formula Global) → inner.items ≡ navigation ∷ worker ∷ shared ∷ [] → outer.items ≡ OfAtom (atoms.Url index) ∷ NoneOf inner ∷ []
    → formula_view navigation ≡ of_atom (of_name 1 (codes "navigate")) → formula_view worker ≡ of_atom (of_name 2 (codes "worker")) → formula_view shared ≡ of_atom (of_name 2 (codes "sharedworker"))
    → formula_view (NoneOf outer) ≡ outside_of index
outside_view index navigation worker shared inner outer inner_is outer_is first second third =
    let one = of_atom (of_name 1 (codes "navigate")) in
    let two = of_atom (of_name 2 (codes "worker")) in
    let three = of_atom (of_name 2 (codes "sharedworker")) in
    let others : formula_view (NoneOf inner) ≡ of_none (formula one (formula two (formula three no_formulas))) =
    none-formula inner ∙ ap (λ (l : List Formula). of_none (listed (formula_views l))) inner_is
    ∙ ap (λ (v : FormulaView). of_none (formula v (formula (formula_view worker) (formula (formula_view shared) no_formulas)))) first
    ∙ ap (λ (v : FormulaView). of_none (formula one (formula v (formula (formula_view shared) no_formulas)))) second ∙ ap (λ (v : FormulaView). of_none (formula one (formula two (formula v no_formulas)))) third in
    none-formula outer ∙ ap (λ (l : List Formula). of_none (listed (formula_views l))) outer_is
    ∙ ap (λ (v : FormulaView). of_none (formula v (formula (formula_view (NoneOf inner)) no_formulas))) (atom-formula (atoms.Url index))
    ∙ ap (λ (v : FormulaView). of_none (formula (of_atom (of_url index)) (formula v no_formulas))) others

-- The formula of what is outside of a scope is within the patterns, once the scope's is added.
pub outside_within : (old new : List PatternAutomata) (it : PatternAutomata) (own : FormulaView) → new ≡ old ++ it ∷ [] → own ≡ outside_of (length old) → AreWithin new (own ∷ [])
outside_within old new it own now is =
    let longer : length new ≡ length old + 1 = ap (λ (l : List PatternAutomata). length l) now ∙ length-append old (it ∷ []) in
    let within : length old < length new = omega (arith, longer) in
    All-cons (IsWithin (length new)) own [] (subst (IsWithin (length new)) (sym is) (within, ((tt, (tt, (tt, tt))), tt))) (All-nil (IsWithin (length new)))
