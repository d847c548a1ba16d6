-- What a method that is chosen at run time means: what the one chosen means.
use Rattle.commands.specs.declared.stacks.Base.{Base}
use Rattle.commands.specs.declared.stacks.Base.TheVariants as base
use Rattle.commands.specs.declared.stacks.Layer.{Layer}
use Rattle.commands.specs.declared.stacks.Layer.TheVariants as layer
use Rattle.commands.specs.declared.stacks.Stack.{Stack}
use Rattle.commands.specs.declared.stacks.Stack.TheVariants as stack
use Rattle.methods.specs.CutLaws.{cut_lawful}
use Rattle.methods.specs.Cuts.{cut_says}
use Rattle.methods.specs.LooksUp.{look_up_says}
use Rattle.methods.specs.LooksUpLaws.{look_up_lawful}
use Rattle.methods.specs.Questions.{Meaning, Lawful}
use Rattle.methods.specs.SplitLaws.{split_lawful}
use Rattle.methods.specs.Splits.{split_says}
use Rattle.methods.specs.Sums.{multipliers_say}
use Rattle.methods.specs.SumsLaws.{multipliers_lawful}
use Rattle.session.specs.declared.stacks.BaseMethod.{BaseMethod}
use Rattle.session.specs.declared.stacks.BaseMethod.TheVariants.{Multipliers, LookUp}
use Rattle.session.specs.declared.stacks.Layered.{Layered}
use Rattle.session.specs.declared.stacks.Layered.TheVariants.{Bare, Cut, Split}

abbrev pub base_says : BaseMethod → Meaning
base_says (Multipliers m) = multipliers_say
base_says (LookUp m) = look_up_says

pub base_lawful : (b : BaseMethod) → Lawful (base_says b)
base_lawful (Multipliers m) = multipliers_lawful
base_lawful (LookUp m) = look_up_lawful

abbrev pub layered_says : {M : Type 0} → (M → Meaning) → Layered M → Meaning
layered_says says (Bare m) = says m
layered_says says (Cut c) = cut_says (says c.below)
layered_says says (Split s) = split_says (says s.below)

pub layered_lawful : {M : Type 0} (says : M → Meaning) → ((m : M) → Lawful (says m)) → (l : Layered M) → Lawful (layered_says says l)
layered_lawful says lawful (Bare m) = lawful m
layered_lawful says lawful (Cut c) = cut_lawful (says c.below) (lawful c.below)
layered_lawful says lawful (Split s) = split_lawful (says s.below) (lawful s.below)

-- what a name stands for
abbrev pub base_named : Base → Meaning
base_named base.Multipliers = multipliers_say
base_named base.LookUp = look_up_says

abbrev pub layer_named : Layer → Meaning → Meaning
layer_named layer.Cut = cut_says
layer_named layer.Split = split_says

abbrev pub stack_says : Stack → Meaning
stack_says (stack.Bare b) = base_named b
stack_says (stack.Single l b) = layer_named l (base_named b)
stack_says (stack.Double t l b) = layer_named t (layer_named l (base_named b))

-- the layer of a name over a method
abbrev pub layer_over : {M : Type 0} → Layer → M → Layered M
layer_over layer.Cut m = Cut (record { below = m })
layer_over layer.Split m = Split (record { below = m })
