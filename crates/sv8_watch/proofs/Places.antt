-- Places in pieces of the output.
use Rattle.std.proofs.Common.{◌≡◌, ℕ, zero, suc, ◌+◌, ◌*◌, ◌<◌, ◌≤◌, Bool, true, false, cond, nat_lt, List, [], ◌∷◌, length, take, drop, Some, None, refl, sym, ap, ◌∙◌, arith}
use Rattle.std.specs.List.{slice_get}
use Rattle.std.proofs.lemmas.Bool.{ltb-false}
use Rattle.std.proofs.lemmas.Option.{slice_get_past}
use Rattle.sv8_phys.specs.declared.output.OutputPlace.{OutputPlace}
use Rattle.sv8_phys.specs.Ends.{IsEnd}
use Rattle.sv8_phys.specs.Pieces.{piece_of}
use Rattle.sv8_watch.specs.Happening.{byte_put}

drop_place : (n p : ℕ) (xs : List ℕ) → slice_get (drop n xs) p ≡ slice_get xs (n + p)
drop_place zero p xs = ap (slice_get xs) (omega arith)
drop_place (suc n) p [] = sym (slice_get_past [] (suc n + p) (omega arith))
drop_place (suc n) p (x ∷ xs) =
    let next : suc n + p ≡ suc (n + p) = omega arith in
    drop_place n p xs ∙ ap (slice_get (x ∷ xs)) (sym next)

take_place : (n p : ℕ) (xs : List ℕ) → p < n → slice_get (take n xs) p ≡ slice_get xs p
take_place zero p xs below = absurd (omega arith)
take_place (suc n) p [] below = refl
take_place (suc n) zero (x ∷ xs) below = refl
take_place (suc n) (suc p) (x ∷ xs) below = take_place n p xs (omega arith)

same_some : {xs ys : List ℕ} → Some xs ≡ Some ys → xs ≡ ys
same_some e = cc

some_none : {xs : List ℕ} → Some xs ≡ None → ⊥
some_none e = cc

module _ (output before : List ℕ) (p : OutputPlace) (end : IsEnd before p) where
  pub in_piece : (bytes : List ℕ) → Some bytes ≡ piece_of output p.piece → slice_get bytes p.place ≡ byte_put before output
  unfolding piece_of
  in_piece bytes e = go (nat_lt (512 * p.piece) (length output)) e where
    go : (b : Bool) → Some bytes ≡ cond b (Some (take 512 (drop (512 * p.piece) output))) None → slice_get bytes p.place ≡ byte_put before output
    go true f =
        ap (λ bs. slice_get bs p.place) (same_some f) ∙ take_place 512 p.place (drop (512 * p.piece) output) end.inside
        ∙ drop_place (512 * p.piece) p.place output ∙ ap (slice_get output) end.all
    go false f = absurd (some_none f)

  pub in_none : None ≡ piece_of output p.piece → None ≡ byte_put before output
  unfolding piece_of
  in_none e = go (nat_lt (512 * p.piece) (length output)) refl e where
    go : (b : Bool) → nat_lt (512 * p.piece) (length output) ≡ b → None ≡ cond b (Some (take 512 (drop (512 * p.piece) output))) None → None ≡ byte_put before output
    go true t f = absurd (some_none (sym f))
    go false t f =
        let past : length output ≤ 512 * p.piece = ltb-false (512 * p.piece) (length output) t in
        let all = end.all in
        sym (slice_get_past output (length before) (omega (arith, past, all)))
