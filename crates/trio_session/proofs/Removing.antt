-- A file that was made is one whose slot is cleared: what is kept of the session, and what it shows.
use Rattle.trio_session.proofs.Words.{◌++◌, ◌+◌, ◌-◌, ◌<◌, ◌∙◌, ◌∷◌, ◌≡◌, ◌≢◌, ◌≤◌, AreDirs, AreMade, Bool, In, In-map, IndexedDir, IsOne, Laid, List, Made, MadeFile, None, OneFile, Parcel, Removed, Shown, Some, [], ap, append-nil, are_new, arith, drop, eq-eqb, eqb, eqb-true, false, false≢true, filter, filter-In, filter-map, length, length-append, made_seen, map, map-append, position, refl, slice_get, slice_get_within, subst, suc, sym, take, true, ℕ}
use Rattle.std.proofs.Common.{not}
use Rattle.trio_session.specs.inner.Found.{NotMade, RemovesMade}
use Rattle.trio_session.proofs.Found.{position-passes}
use Rattle.trio_session.proofs.Indexed.{are_new-front}
use Rattle.trio_session.proofs.Kept.{files_of}
use Rattle.trio_session.proofs.Numbers.{length-removed, none-In, others_all, others_one, same_none, same_one_only}
use Rattle.trio_session.proofs.Removed.{kept_removed, removed_left}

-- what it is to a session
pub record IsRemoved (placed : ℕ) (reads : List Shown) (b : Parcel) (ls : List Laid) (ms cs ms' cs' : List Made) (ino : ℕ) (dirs : List IndexedDir) : Type 0 where
  pub made : AreMade placed reads (files_of b ls ms' cs')
  pub are : AreDirs reads (files_of b ls ms' cs') dirs
  pub one : (x : OneFile) → IsOne (files_of b ls ms cs) x → IsOne (files_of b ls ms' cs') x
  pub apart : (m : Made) → In m ms' → m.ino ≢ ino
  pub rest : map (made_seen b) ms' ≡ filter (λ m. not (eqb m.ino ino)) (map (made_seen b) ms)
  pub gone : map (made_seen b) cs' ≡ map (made_seen b) cs ++ filter (λ m. eqb m.ino ino) (map (made_seen b) ms)
  pub many : length ms' + length cs' ≡ length ms + length cs
  pub fewer : length ms' ≤ length ms

others_not : (ms : List Made) (ino : ℕ) (m : Made) → In m (filter (λ k. not (eqb k.ino ino)) ms) → m.ino ≢ ino
others_not ms ino m i same =
    let f = filter-In (λ (k : Made). not (eqb k.ino ino)) m ms i in
    false≢true (sym (ap not (eq-eqb m.ino ino same)) ∙ f.1)

pub is_removed : (placed : ℕ) (reads : List Shown) (b : Parcel) (ls : List Laid) (ms cs ms' cs' : List Made) (ino : ℕ) (dirs : List IndexedDir) → AreMade placed reads (files_of b ls ms cs)
    → AreDirs reads (files_of b ls ms cs) dirs → RemovesMade ms cs ino ms' cs' → IsRemoved placed reads b ls ms cs ms' cs' ino dirs
is_removed placed reads b ls ms cs ms' cs' ino dirs made are removes =
    let P : List Made → List Made → Type 0 = λ xs ys. IsRemoved placed reads b ls ms cs xs ys ino dirs in
    let seen = made_seen b in
    elim removes [
      | NotMade none em ec ↦
          let out = none-In (λ (k : Made). k.ino) ms ino none in
          subst (λ xs. P xs cs') (sym em) (subst (P ms) (sym ec) (record {
            made = made;
            are = are;
            one = λ x i. i;
            apart = λ m i same. out (subst (λ n. In n (map (λ (k : Made). k.ino) ms)) same (In-map (λ (k : Made). k.ino) m ms i));
            rest = sym (filter-map seen (λ (x : MadeFile). not (eqb x.ino ino)) ms ∙ ap (map seen) (others_all (λ (k : Made). k.ino) ms ino out));
            gone = sym (ap (λ xs. map seen cs ++ xs) (filter-map seen (λ (x : MadeFile). eqb x.ino ino) ms ∙ ap (map seen) (same_none (λ (k : Made). k.ino) ms ino out)) ∙ append-nil (map seen cs));
            many = refl;
            fewer = omega arith;
          }))
      | Removed at m e there em ec ↦
          let number = eqb-true m.ino ino (position-passes (λ (k : Made). eqb k.ino ino) ms at m e there) in
          let once = are_new-front (map (λ (k : Made). k.ino) ms) (map (λ (k : Made). k.ino) cs) (ap (are_new []) (sym (map-append (λ (k : Made). k.ino) ms cs)) ∙ made.numbered.once) in
          let kept = kept_removed placed reads b ls ms cs at m there dirs made are in
          let rest = others_one (λ (k : Made). k.ino) ms ino at m once there number in
          let fewer = length-removed ms at m there in
          let more = length-append cs (m ∷ []) in
          let some = slice_get_within ms at m there in
          subst (λ xs. P xs cs') (sym em) (subst (P (take at ms ++ drop (suc at) ms)) (sym ec) (record {
            made = kept.0;
            are = kept.1;
            one = removed_left placed reads b ls ms cs at m there;
            apart = λ k i. others_not ms ino k (subst (In k) rest i);
            rest = ap (map seen) rest ∙ sym (filter-map seen (λ (x : MadeFile). not (eqb x.ino ino)) ms);
            gone = map-append seen cs (m ∷ []) ∙ ap (λ xs. map seen cs ++ map seen xs) (sym (same_one_only (λ (k : Made). k.ino) ms ino at m once there number))
                ∙ ap (λ xs. map seen cs ++ xs) (sym (filter-map seen (λ (x : MadeFile). eqb x.ino ino) ms));
            many = omega (arith, fewer, more, some);
            fewer = omega (arith, fewer);
          }))
    ]
