-- The bytes of values, one after another: what was done so far, then the rest.
use Rattle.std.proofs.Common.{◌≡◌, ℕ, nat_lt, Bool, true, false, cond, refl, sym, ap, arith, List, [], ◌++◌, Option, Some, None, append_assoc, append-nil}
use Rattle.std.specs.Prelude.{Result, Ok, Err}
use Rattle.std.proofs.lemmas.Bool.{lt-ltb, le-ltb, ltb-true, ltb-false}
use Rattle.sv8_statements.specs.Faults.{rank, least}
use Rattle.sv8_statements.specs.declared.fault.LineFault.{LineFault}
use Rattle.sv8_asm.specs.Code.{before}
use Rattle.sv8_asm.specs.Gathering.{carried}

-- of three faults the least, however they are grouped
least_groups : (a b c : LineFault) → least (Some a) (least (Some b) c) ≡ least (Some (least (Some a) b)) c
unfolding least
least_groups a b c = by_order (nat_lt (rank c) (rank b)) (nat_lt (rank b) (rank a)) refl refl where
  by_order : (p q : Bool) → nat_lt (rank c) (rank b) ≡ p → nat_lt (rank b) (rank a) ≡ q
      → cond (nat_lt (rank (cond (nat_lt (rank c) (rank b)) c b)) (rank a)) (cond (nat_lt (rank c) (rank b)) c b) a
      ≡ cond (nat_lt (rank c) (rank (cond (nat_lt (rank b) (rank a)) b a))) c (cond (nat_lt (rank b) (rank a)) b a)
  by_order true true e f =
      let below : nat_lt (rank c) (rank a) ≡ true = lt-ltb _ _ (omega (arith, ltb-true _ _ e, ltb-true _ _ f)) in
      rw (e, f, below, e) refl
  by_order true false e f = rw (e, f) refl
  by_order false true e f = rw (e, f, e) refl
  by_order false false e f =
      let above : nat_lt (rank c) (rank a) ≡ false = le-ltb _ _ (omega (arith, ltb-false _ _ e, ltb-false _ _ f)) in
      rw (e, f, above) refl

pub carried_bytes : (f : Option LineFault) (done bs : List ℕ) (r : Result (List ℕ) LineFault)
    → carried f done (before (Ok bs) r) ≡ carried f (done ++ bs) r
carried_bytes None done bs (Ok rest) = ap Ok (sym (append_assoc done bs rest))
carried_bytes None done bs (Err e) = refl
carried_bytes (Some f) done bs (Ok rest) = refl
carried_bytes (Some f) done bs (Err e) = refl

pub carried_fault : (f : Option LineFault) (done : List ℕ) (e : LineFault) (r : Result (List ℕ) LineFault)
    → carried f done (before (Err e) r) ≡ carried (Some (least f e)) done r
unfolding least
carried_fault None done e (Ok rest) = refl
carried_fault None done e (Err d) = refl
carried_fault (Some f) done e (Ok rest) = refl
carried_fault (Some f) done e (Err d) = ap Err (least_groups f e d)

pub carried_start : (r : Result (List ℕ) LineFault) → r ≡ carried None [] r
carried_start (Ok rest) = refl
carried_start (Err e) = refl

pub carried_end : (done : List ℕ) → carried None done (Ok []) ≡ Ok done
carried_end done = ap Ok (append-nil done)
