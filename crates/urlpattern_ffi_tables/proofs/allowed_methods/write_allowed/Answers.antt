use Rattle.std.proofs.Common.{List, subst, sym, ℕ}
use Rattle.urlpattern.specs.Routes.{allowed_left}
use Rattle.urlpattern.specs.declared.router.routed.Routed.{Routed}
use Rattle.urlpattern_engine.specs.declared.pattern_regexp.PatternRegexp.{PatternRegexp}
use Rattle.urlpattern_ffi_tables.proofs.AllowedLemmas.{methods_written}
use Rattle.urlpattern_ffi_tables.specs.AllowedMethodTexts.{AreAllowedWritten, AreMethodsIn}
use Rattle.urlpattern_ffi_tables.proofs.allowed_methods.write_allowed.Goals as goal

pub returns-in-Ok : goal.returns-in-Ok
returns-in-Ok c =
    let allowed = c.in-MethodNotAllowed.allowed in
    let are = subst (λ (bytes : List ℕ). AreMethodsIn (allowed_left allowed) bytes) (sym c.deref.ensures) c.in-Ok.ensures in
    subst (λ (routed : Routed (Unit {0}) PatternRegexp). AreAllowedWritten routed c.args.buffer.now c.write.new.buffer c.write.new.needed c.write.result) (sym c.in-MethodNotAllowed.is)
    (methods_written allowed c.deref.result.now c.args.buffer.now c.write.new.buffer c.write.new.needed c.write.result are c.write.ensures.needed c.write.ensures.written)
