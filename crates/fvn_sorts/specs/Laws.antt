-- Laws of what is found good.
use Rattle.fvn_forms.specs.Good.{IsGood}
use Rattle.fvn_signature.specs.Queries.{IsCompleted}
use Rattle.fvn_signature_draft.specs.declared.collected.Collected.{Collected}
use Rattle.fvn_signature_draft.specs.Collected.{IsClosed, completed}
use Rattle.fvn_sorts.specs.Faults.{HasNoFault}

-- what was collected without a fault is a good signature, in which sorts, kinds, the order and operators go together
abbrev pub FaultlessSignaturesAreGood : Type 0
FaultlessSignaturesAreGood =
    (c : Collected) → IsClosed c → HasNoFault c → IsGood (completed c) × IsCompleted (completed c)
