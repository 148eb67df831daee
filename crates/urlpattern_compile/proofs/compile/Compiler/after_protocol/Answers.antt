use Rattle.std.proofs.Common.{[], ◌∷◌}
use Rattle.urlpattern_compile.specs.CompilerSteps.{settings_by}
use Rattle.urlpattern_compile.proofs.CompiledLemmas.{one_compiled, refused_after}
use Rattle.urlpattern_components.proofs.EightLemmas.{by_name}
use Rattle.urlpattern_components.specs.declared.eight.ComponentName.TheVariants.{Hostname, Pathname, Username, Password, Port, Search, Hash}
use Rattle.urlpattern_compile.proofs.compile.Compiler.after_protocol.Goals as goal

pub returns-in_err-component-clause-refused : goal.returns-in_err-component-clause-refused
returns-in_err-component-clause-refused g c =
    refused_after g.R.RegExp (settings_by c.args.self.now c.args.hierarchical) c.from_residual.result
    c.in_err-component.field-0.0 [] (Pathname ∷ Username ∷ Password ∷ Port ∷ Search ∷ Hash ∷ []) Hostname c.from_residual.ensures.1 c.in_err-component.ensures.refused
    tt

pub returns-in_err-component-2-clause-refused : goal.returns-in_err-component-2-clause-refused
returns-in_err-component-2-clause-refused g c =
    refused_after g.R.RegExp (settings_by c.args.self.now c.args.hierarchical) c.from_residual-in_err-component-2.result
    c.in_err-component-2.field-0.0 (Hostname ∷ []) (Username ∷ Password ∷ Port ∷ Search ∷ Hash ∷ []) Pathname c.from_residual-in_err-component-2.ensures.1 c.in_err-component-2.ensures.refused
    (one_compiled g.R.RegExp _ c.in_ok-component.field-0 c.in_ok-component.ensures.compiled, tt)

pub returns-in_err-component-3-clause-refused : goal.returns-in_err-component-3-clause-refused
returns-in_err-component-3-clause-refused g c =
    refused_after g.R.RegExp (settings_by c.args.self.now c.args.hierarchical) c.from_residual-in_err-component-3.result
    c.in_err-component-3.field-0.0 (Hostname ∷ Pathname ∷ []) (Password ∷ Port ∷ Search ∷ Hash ∷ []) Username c.from_residual-in_err-component-3.ensures.1 c.in_err-component-3.ensures.refused
    (one_compiled g.R.RegExp _ c.in_ok-component.field-0 c.in_ok-component.ensures.compiled, (one_compiled g.R.RegExp _ c.in_ok-component-2.field-0 c.in_ok-component-2.ensures.compiled, tt))

pub returns-in_err-component-4-clause-refused : goal.returns-in_err-component-4-clause-refused
returns-in_err-component-4-clause-refused g c =
    refused_after g.R.RegExp (settings_by c.args.self.now c.args.hierarchical) c.from_residual-in_err-component-4.result
    c.in_err-component-4.field-0.0 (Hostname ∷ Pathname ∷ Username ∷ []) (Port ∷ Search ∷ Hash ∷ []) Password c.from_residual-in_err-component-4.ensures.1 c.in_err-component-4.ensures.refused
    (one_compiled g.R.RegExp _ c.in_ok-component.field-0 c.in_ok-component.ensures.compiled, (one_compiled g.R.RegExp _ c.in_ok-component-2.field-0 c.in_ok-component-2.ensures.compiled, (one_compiled g.R.RegExp _ c.in_ok-component-3.field-0 c.in_ok-component-3.ensures.compiled, tt)))

pub returns-in_err-component-5-clause-refused : goal.returns-in_err-component-5-clause-refused
returns-in_err-component-5-clause-refused g c =
    refused_after g.R.RegExp (settings_by c.args.self.now c.args.hierarchical) c.from_residual-in_err-component-5.result
    c.in_err-component-5.field-0.0 (Hostname ∷ Pathname ∷ Username ∷ Password ∷ []) (Search ∷ Hash ∷ []) Port c.from_residual-in_err-component-5.ensures.1 c.in_err-component-5.ensures.refused
    (one_compiled g.R.RegExp _ c.in_ok-component.field-0 c.in_ok-component.ensures.compiled, (one_compiled g.R.RegExp _ c.in_ok-component-2.field-0 c.in_ok-component-2.ensures.compiled, (one_compiled g.R.RegExp _ c.in_ok-component-3.field-0 c.in_ok-component-3.ensures.compiled, (one_compiled g.R.RegExp _ c.in_ok-component-4.field-0 c.in_ok-component-4.ensures.compiled, tt))))

pub returns-in_err-component-6-clause-refused : goal.returns-in_err-component-6-clause-refused
returns-in_err-component-6-clause-refused g c =
    refused_after g.R.RegExp (settings_by c.args.self.now c.args.hierarchical) c.from_residual-in_err-component-6.result
    c.in_err-component-6.field-0.0 (Hostname ∷ Pathname ∷ Username ∷ Password ∷ Port ∷ []) (Hash ∷ []) Search c.from_residual-in_err-component-6.ensures.1 c.in_err-component-6.ensures.refused
    (one_compiled g.R.RegExp _ c.in_ok-component.field-0 c.in_ok-component.ensures.compiled, (one_compiled g.R.RegExp _ c.in_ok-component-2.field-0 c.in_ok-component-2.ensures.compiled, (one_compiled g.R.RegExp _ c.in_ok-component-3.field-0 c.in_ok-component-3.ensures.compiled, (one_compiled g.R.RegExp _ c.in_ok-component-4.field-0 c.in_ok-component-4.ensures.compiled, (one_compiled g.R.RegExp _ c.in_ok-component-5.field-0 c.in_ok-component-5.ensures.compiled, tt)))))

pub returns-in_err-component-7-clause-refused : goal.returns-in_err-component-7-clause-refused
returns-in_err-component-7-clause-refused g c =
    refused_after g.R.RegExp (settings_by c.args.self.now c.args.hierarchical) c.from_residual-in_err-component-7.result
    c.in_err-component-7.field-0.0 (Hostname ∷ Pathname ∷ Username ∷ Password ∷ Port ∷ Search ∷ []) [] Hash c.from_residual-in_err-component-7.ensures.1 c.in_err-component-7.ensures.refused
    (one_compiled g.R.RegExp _ c.in_ok-component.field-0 c.in_ok-component.ensures.compiled, (one_compiled g.R.RegExp _ c.in_ok-component-2.field-0 c.in_ok-component-2.ensures.compiled, (one_compiled g.R.RegExp _ c.in_ok-component-3.field-0 c.in_ok-component-3.ensures.compiled, (one_compiled g.R.RegExp _ c.in_ok-component-4.field-0 c.in_ok-component-4.ensures.compiled, (one_compiled g.R.RegExp _ c.in_ok-component-5.field-0 c.in_ok-component-5.ensures.compiled, (one_compiled g.R.RegExp _ c.in_ok-component-6.field-0 c.in_ok-component-6.ensures.compiled, tt))))))

pub returns-clause-compiled : goal.returns-clause-compiled
returns-clause-compiled g c =
    by_name _ c.requires c.in_ok-component-3.ensures.compiled c.in_ok-component-4.ensures.compiled c.in_ok-component.ensures.compiled c.in_ok-component-5.ensures.compiled c.in_ok-component-2.ensures.compiled
    c.in_ok-component-6.ensures.compiled c.in_ok-component-7.ensures.compiled
