-- Which parcels are closed, by what the library has out.
use Rattle.trio_ctl.proofs.Words.{if◌then◌else◌, ◌&&◌, ◌==◌, ◌∙◌, ◌∷◌, ◌≡◌, ◌≤◌, AcceptedBundle, AreAsTold, Bool, Bundle, CtlAnswer, Err, Hold, HoldParts, In, In-filter, In-is_among, In-map, IsAccepted, IsRefused, IsSomeAnd, LibNo, List, NoReleaseMemory, None, NotClosedBundle, NotJudged, Ok, OpenGrant, Option, Parcel, Parted, RefusedBundle, ReleaseAnswer, ReleaseFault, Result, Row, Some, State, Step, [], and_parts, ap, arith, bundle_of, cases_Bool, eq-eqb, false, false≢true, file_numbers, filter, filter-In, grants_of, hold_numbers, hold_of, inl, inr, is_among, is_among-In, is_hold, is_parted, is_written, leb-true, lowest, map, map-In, nat_le, not, out_of, parted_hold, refl, release_answer, release_fault_answer, release_told, row_at, subst, sym, true, verdict_of, ℕ}
use Rattle.std.proofs.lemmas.Bool.{leb-false}
use Rattle.trio_desk.specs.Out.{AreTogether, IsClosed, IsLowestParted}
use Rattle.trio_desk.specs.Call.{TellsClosed}
use Rattle.trio_state.specs.Bundles.{is_parent_written, lower}
use Rattle.trio_state.specs.Step as step
use Rattle.trio_laws.proofs.Bundles.{unparted_at}
use Rattle.trio_ctl.proofs.DeskGiven.{behind}
use Rattle.trio_ctl.proofs.DeskOuts.{hold_is, written_among}

-- ---- the lowest of some numbers

some_lower : (n : ℕ) (o : Option ℕ) → lower n o ≡ None → ⊥
some_lower n None e = absurd cc
some_lower n (Some m) e = absurd cc

none_in : (xs : List ℕ) → lowest xs ≡ None → (m : ℕ) → In m xs → ⊥
none_in [] e m i = i
none_in (x ∷ xs) e m i = some_lower x (lowest xs) e

record IsLowest (xs : List ℕ) (n : ℕ) : Type 0 where
  there : In n xs
  least : (m : ℕ) → In m xs → n ≤ m

lowest_of : (xs : List ℕ) (n : ℕ) → lowest xs ≡ Some n → IsLowest xs n
lowest_of [] n e = absurd cc
lowest_of (x ∷ xs) n e = by (lowest xs) refl (λ k some. lowest_of xs k some) e
  where
    by : (o : Option ℕ) → lowest xs ≡ o → ((k : ℕ) → lowest xs ≡ Some k → IsLowest xs k) → lower x o ≡ Some n → IsLowest (x ∷ xs) n
    by None none rest e =
        let is : x ≡ n = cc e in
        record {
          there = inl (sym is);
          least = λ m i. elim i [ inl same ↦ omega (arith, is, same) | inr later ↦ absurd (none_in xs none m later) ];
        }
    by (Some k) some rest e = either (nat_le x k) refl (rest k some) e
      where
        either : (t : Bool) → nat_le x k ≡ t → IsLowest xs k → Some (if t then x else k) ≡ Some n → IsLowest (x ∷ xs) n
        either true le r e =
            let is : x ≡ n = cc e in
            let less = leb-true x k le in
            record {
              there = inl (sym is);
              least = λ m i. elim i [ inl same ↦ omega (arith, is, same) | inr later ↦ (let l = r.least m later in omega (arith, is, less, l)) ];
            }
        either false le r e =
            let is : k ≡ n = cc e in
            let less = leb-false x k le in
            record {
              there = inr (subst (λ j. In j xs) is r.there);
              least = λ m i. elim i [ inl same ↦ omega (arith, is, less, same) | inr later ↦ (let l = r.least m later in omega (arith, is, l)) ];
            }

-- ---- a hold and the lease on its directory

abbrev apart : Bool → Bool → Bool
apart held written = if held then not written else written

alike_not_apart : (a b : Bool) → apart a b ≡ false → a ≡ b
alike_not_apart true true e = refl
alike_not_apart true false e = absurd (false≢true (sym e))
alike_not_apart false true e = absurd (false≢true (sym e))
alike_not_apart false false e = refl

differ_apart : (a b : Bool) → apart a b ≡ true → (a ≡ true → b ≡ true) → (b ≡ true → a ≡ true) → ⊥
differ_apart true true e f g = false≢true e
differ_apart true false e f g = false≢true (f refl)
differ_apart false true e f g = false≢true (g refl)
differ_apart false false e f g = false≢true e

module _ (s : State) (told : AreAsTold s) (lib : LibNo) (p : Parcel) where
  abbrev b : Bundle
  b = bundle_of p

  abbrev apart_in : OpenGrant → Bool
  apart_in g = apart (is_among g.ino (hold_numbers p.holds)) (is_among g.parent (file_numbers p.writes))

  parted_is : (g : OpenGrant) → In g s.open_grants → (g.lib == lib.0) ≡ true → g.kind ≡ Hold → is_parted s lib.0 b g ≡ apart_in g
  parted_is g i mine hold =
      let X : Bool = if is_among g.ino b.holds then not (is_parent_written b (row_at s.home g.ino)) else is_parent_written b (row_at s.home g.ino) in
      ap (λ t. t && is_hold g.kind && X) mine
      ∙ ap (λ k. true && is_hold k && X) hold
      ∙ ap (λ t. if is_among g.ino b.holds then not t else t) (by (row_at s.home g.ino) (told g i hold))
    where
      by : (o : Option Row) → IsSomeAnd o (λ r. g.parent ≡ r.parent) → is_parent_written b o ≡ is_among g.parent (file_numbers p.writes)
      by None t = absurd t
      by (Some r) t = ap (is_written b) (sym t) ∙ written_among p g.parent

  together : (g : OpenGrant) → apart_in g ≡ false → AreTogether p (hold_of g)
  together g e =
      let same = alike_not_apart (is_among g.ino (hold_numbers p.holds)) (is_among g.parent (file_numbers p.writes)) e in (
        λ i. is_among-In g.parent (file_numbers p.writes) (sym same ∙ In-is_among g.ino (hold_numbers p.holds) i),
        λ i. is_among-In g.ino (hold_numbers p.holds) (same ∙ In-is_among g.parent (file_numbers p.writes) i),
      )

  not_together : (g : OpenGrant) → apart_in g ≡ true → AreTogether p (hold_of g) → ⊥
  not_together g e both =
      differ_apart (is_among g.ino (hold_numbers p.holds)) (is_among g.parent (file_numbers p.writes)) e
      (λ t. In-is_among g.parent (file_numbers p.writes) (both.0 (is_among-In g.ino (hold_numbers p.holds) t)))
      (λ t. In-is_among g.ino (hold_numbers p.holds) (both.1 (is_among-In g.parent (file_numbers p.writes) t)))

  pub is_closed : parted_hold s lib.0 b ≡ None → IsClosed (out_of s lib) p
  is_closed none h i =
      let w = behind hold_of is_hold s lib h i in
      subst (AreTogether p) (sym w.is)
      (together w.grant (sym (parted_is w.grant w.is_open (eq-eqb w.grant.lib lib.0 w.lib) (hold_is w.grant.kind w.kind)) ∙ unparted_at s lib.0 b w.grant none w.is_open))

  pub is_lowest_parted : (n : ℕ) → parted_hold s lib.0 b ≡ Some n → IsLowestParted (out_of s lib) p n
  is_lowest_parted n e =
      let l = lowest_of (map (λ (g : OpenGrant). g.ino) (filter (is_parted s lib.0 b) s.open_grants)) n e in
      let m = map-In (λ (g : OpenGrant). g.ino) n (filter (is_parted s lib.0 b) s.open_grants) l.there in
      let f = filter-In (is_parted s lib.0 b) m.0 s.open_grants m.1 in
      let X : Bool = if is_among m.0.ino b.holds then not (is_parent_written b (row_at s.home m.0.ino)) else is_parent_written b (row_at s.home m.0.ino) in
      let own = (and_parts (m.0.lib == lib.0 && is_hold m.0.kind) X f.1).0 in
      let q = and_parts (m.0.lib == lib.0) (is_hold m.0.kind) own in
      record {
        hold = hold_of m.0;
        is_out = In-map hold_of m.0 (grants_of is_hold lib s.open_grants) (In-filter (λ (g : OpenGrant). g.lib == lib.0 && is_hold g.kind) m.0 s.open_grants f.0 own);
        number = sym m.2;
        parted = not_together m.0 (sym (parted_is m.0 f.0 q.0 (hold_is m.0.kind q.1)) ∙ f.1);
        lowest = λ h i away.
            let w = behind hold_of is_hold s lib h i in
            let is = parted_is w.grant w.is_open (eq-eqb w.grant.lib lib.0 w.lib) (hold_is w.grant.kind w.kind) in
            let low : n ≤ w.grant.ino = elim (cases_Bool (apart_in w.grant)) [
              | inl t ↦ l.least w.grant.ino (In-map (λ (g : OpenGrant). g.ino) w.grant (filter (is_parted s lib.0 b) s.open_grants) (In-filter (is_parted s lib.0 b) w.grant s.open_grants w.is_open (is ∙ t)))
              | inr t ↦ absurd (away (subst (AreTogether p) (sym w.is) (together w.grant t)))
            ] in
            subst (λ (x : HoldParts). n ≤ x.ino) (sym w.is) low;
      }

  module _ (s' : State) where
    judged_closed : (answer : CtlAnswer) → ((n : ℕ) → answer ≡ step.NotClosed n → ⊥) → (answer ≡ step.NoMemory → ⊥) → Step s (step.Release lib.0 b) answer s' → IsClosed (out_of s lib) p
    judged_closed answer closed there (inl (Parted n some a same)) = absurd (closed n a)
    judged_closed answer closed there (inl (IsAccepted none t a ends)) = is_closed none
    judged_closed answer closed there (inl (IsRefused none f why a tells ends)) = is_closed none
    judged_closed answer closed there (inr none) = absurd (there none.1)

    told_parted : (n : ℕ) → Step s (step.Release lib.0 b) (step.NotClosed n) s' → IsLowestParted (out_of s lib) p n
    told_parted n (inl (Parted m some a same)) = (let is : n ≡ m = cc a in subst (IsLowestParted (out_of s lib) p) (sym is) (is_lowest_parted m some))
    told_parted n (inl (IsAccepted none t a ends)) = let wrong : step.NotClosed n ≡ step.Accepted = a in absurd (cc wrong)
    told_parted n (inl (IsRefused none f why a tells ends)) = let wrong : step.NotClosed n ≡ step.Refused why = a in absurd (cc wrong)
    told_parted n (inr none) = let wrong : step.NotClosed n ≡ step.NoMemory = none.1 in absurd (cc wrong)

    pub closed_told : {B : Type 0} (r : Result ReleaseAnswer B) (f : B → ReleaseFault) → Step s (step.Release lib.0 b) (release_answer r f) s' → TellsClosed (out_of s lib) p (release_told r f)
    closed_told (Ok AcceptedBundle) f st = judged_closed step.Accepted (λ n e. cc e) (λ e. cc e) st
    closed_told (Ok (RefusedBundle rule ino page slot)) f st = judged_closed (verdict_of (RefusedBundle rule ino page slot)) (λ n e. cc e) (λ e. cc e) st
    closed_told (Err back) f st = by (f back) st
      where
        by : (fault : ReleaseFault) → Step s (step.Release lib.0 b) (release_fault_answer fault) s' → TellsClosed (out_of s lib) p (NotJudged fault)
        by (NotClosedBundle n) st = told_parted n st
        by NoReleaseMemory st = tt
