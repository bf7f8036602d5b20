-- How a formula by value is spelled in memory, and that its spelling has its type.
-- Assumes `Logic`.
use mathlib.Core.List.{[], ◌∷◌}
use seplogic.Ra.Ura.{Ura}
use lib.Dec.{T}
use mir.Val.{Val, has_ty, WT}
use types.Logic.{Logic}
use denote.Laws.{Is}
use denote.Struct.Laws as LL
use Rattle.formula.specs.declared.Formula.{Formula}
use Rattle.formula.specs.contracts.Formula as F
use Rattle.formula.proofs.Formula.TheLaws as F'

abbrev pub formula_val : Formula → Val
formula_val f = LL.val F.the_type F'.the_laws f

module _ {M : Type 1} {𝓤 : Ura M} (𝓛 : Logic 𝓤) where
  pub formula_typed : (f : Formula) → Is F.the_row f (formula_val f ∷ []) → T (has_ty F'.mir (formula_val f)) × WT (formula_val f)
  formula_typed f g = ((LL.lawful F.the_type F'.the_laws 𝓛).typed f _ g).0
