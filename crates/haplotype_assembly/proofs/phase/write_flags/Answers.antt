use Rattle.std.proofs.Common.{◌≡◌, Bool, true, false, refl, ap, ◌∙◌}
use mir.Val.{bool_byte}
use Rattle.variants_and_fragments.specs.Written.{written}
use Rattle.haplotype_assembly.specs.Phase.{flag_of}
use Rattle.haplotype_assembly.specs.Inner.PhaseRead.{flags_at}
use Rattle.haplotype_assembly.proofs.Cited.{written_on}
use Rattle.haplotype_assembly.proofs.phase.write_flags.Goals as goal

flag_is : (b : Bool) → bool_byte b ≡ flag_of b
flag_is true = refl
flag_is false = refl

pub loop-v-init : goal.loop-v-init
unfolding written
loop-v-init c = refl

pub loop-v-preserved : goal.loop-v-preserved
unfolding flags_at
loop-v-preserved c = written_on _ _ _ _ _ c.loop-v.invariant (c.from.ensures ∙ flag_is _ ∙ ap flag_of c.is_phased.ensures)
