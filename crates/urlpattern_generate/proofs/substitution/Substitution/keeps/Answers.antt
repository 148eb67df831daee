use Rattle.std.proofs.Common.{◌≡◌, ◌∙◌, ℕ, Bool, List, Ok, refl, subst, sym}
use Rattle.std.specs.Str.{chars}
use Rattle.urlpattern_components.specs.declared.eight.ComponentName.{ComponentName}
use Rattle.urlpattern_components.specs.declared.eight.ComponentName.TheVariants.{Protocol, Username, Password, Hostname, Port, Pathname, Search, Hash}
use Rattle.urlpattern_generate.specs.WriteSettings.{begins_ipv6, canonical_for, is_ipv6_host}
use Rattle.urlpattern_syntax.specs.ComponentParts.{kept_parts}
use Rattle.urlpattern_syntax.specs.Parts.{PartView}
use Rattle.urlpattern_generate.proofs.substitution.Substitution.keeps.Goals as goal

-- Only for a hostname it matters whether the first part begins as an IPv6 address does.
same_canonical : (component : ComponentName) (hierarchical : Bool) (parts : List PartView) (text : List ℕ) →
    canonical_for component hierarchical (is_ipv6_host component parts) text ≡ canonical_for component hierarchical (begins_ipv6 parts) text
same_canonical Protocol hierarchical parts text = refl
same_canonical Username hierarchical parts text = refl
same_canonical Password hierarchical parts text = refl
same_canonical Hostname hierarchical parts text = refl
same_canonical Port hierarchical parts text = refl
same_canonical Pathname hierarchical parts text = refl
same_canonical Search hierarchical parts text = refl
same_canonical Hash hierarchical parts text = refl

pub returns-clause-canonical : goal.returns-clause-canonical
returns-clause-canonical c kept =
    let self = c.args.self.now in
    let text = chars c.args.text.now in
    let parts = kept_parts self.kept.now in
    subst (λ is. canonical_for self.component is (begins_ipv6 parts) text ≡ Ok text) c.is_hierarchical.ensures
    (sym (same_canonical self.component c.is_hierarchical.result parts text)
    ∙ subst (λ is. canonical_for self.component c.is_hierarchical.result is text ≡ Ok text) c.is_ipv6_host.ensures (c.keeps.ensures.canonical kept))
