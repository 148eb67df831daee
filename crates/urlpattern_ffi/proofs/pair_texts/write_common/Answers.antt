use Rattle.std.proofs.Common.{inl, inr, refl}
use Rattle.urlpattern_compare.specs.Comparing.{IsOverlapReason}
use Rattle.urlpattern_ffi.proofs.CoveringLemmas.{of_both}
use Rattle.urlpattern_ffi.proofs.PairTextLemmas.{examined}
use Rattle.urlpattern_ffi.specs.PairTexts.{AreApart, AreCommon, IsOverlapUnknown}
use Rattle.urlpattern_ffi.proofs.pair_texts.write_common.Goals as goal

pub returns-in-Ok-Apart : goal.returns-in-Ok-Apart
returns-in-Ok-Apart c = (rw c.in-Ok-Apart.field-0-is at c.in-Ok-Apart.ensures.overlap, refl)

pub returns-in-Ok-Common : goal.returns-in-Ok-Common
returns-in-Ok-Common c =
    examined AreCommon AreApart IsOverlapUnknown c.args.pattern.now c.args.other.now c.in-Ok-Common.texts c.args.buffer.now c.write_texts.new.buffer c.write_texts.new.needed c.write_texts.result
    (rw c.in-Ok-Common.field-0-is at c.in-Ok-Common.ensures.overlap) c.write_texts.ensures

pub returns-in-Ok-Unknown : goal.returns-in-Ok-Unknown
returns-in-Ok-Unknown c =
    let name = c.in-Ok-Unknown.field-0-0 in
    let reason = c.in-Ok-Unknown.field-0-1 in (
      inl (of_both c.args.pattern.now c.args.other.now (λ parts others. IsOverlapReason parts others name reason) IsOverlapUnknown
          (λ parts others why. (name, reason, why)) (rw c.in-Ok-Unknown.field-0-is at c.in-Ok-Unknown.ensures.overlap)),
      refl,
    )

pub returns-in-Err-NoParts : goal.returns-in-Err-NoParts
returns-in-Err-NoParts c = (inr (rw c.in-Err-NoParts.field-0-is at c.in-Err-NoParts.ensures.missing), refl)
