use Rattle.std.proofs.Common.{inl, inr, refl, sym}
use Rattle.urlpattern_ffi.specs.KeptPatterns.{boxed_patterns}
use Rattle.urlpattern_ffi.proofs.WrittenTextLemmas.{generated}
use Rattle.urlpattern_ffi.proofs.generating.generate.Goals as goal

pub returns : goal.returns
returns c =
    generated (boxed_patterns c.args.kept.now) c.args.index c.args.component c.in-Some.pattern.now c.in-Some-component_of.name c.args.text.now c.args.given.now
    c.args.buffer.now c.generate_component.new.buffer c.generate_component.new.needed c.generate_component.result
    (sym c.in-Some.ensures) (sym c.in-Some-component_of.ensures) c.generate_component.ensures
