-- What the errors hold.
use Rattle.daggy_named.specs.declared.error.AddError.{AddError}
use Rattle.daggy_named.specs.declared.error.AddError.TheVariants as add
use Rattle.daggy_named.specs.declared.error.DependError.{DependError}
use Rattle.daggy_named.specs.declared.error.DependError.TheVariants as depend

-- the key and the weight of the node that was refused
abbrev pub key_and_weight_of : {K N : Type 0} → AddError K N → K × N
key_and_weight_of (add.Taken k w) = (k, w)
key_and_weight_of (add.Full k w) = (k, w)
key_and_weight_of (add.Memory k w) = (k, w)

-- the weight of the edge that was refused
abbrev pub weight_of : {E : Type 0} → DependError E → E
weight_of (depend.UnknownDependency w) = w
weight_of (depend.UnknownDependent w) = w
weight_of (depend.Full w) = w
weight_of (depend.WouldCycle w) = w
weight_of (depend.Memory w) = w
