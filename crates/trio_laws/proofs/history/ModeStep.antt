-- A step of a change of mode extends the history.
use Rattle.trio_laws.proofs.Words.{◌&&◌, ◌+◌, ◌||◌, ◌∙◌, ◌≡◌, BadMode, Beside, Bool, Busy, CallFits, Comes, CtlAnswer, Err, In, Kept, ModeFault, None, NotLive, NotModeSet, NotOwner, Ok, OpenGrant, Option, OutOfMemory, Row, SetMode, Some, Standing, State, after_mode_fault, and_from, ap, arith, cond, creds_of, eq-eqb, eqb, false, false≢true, holder_of, image_with_mode, is_owner, list_any-map, logged, ltb, mode_excluding, mode_fault, mode_outcome, moded_nodes, moded_to, ne_eqb, node_at, node_by, nodes_of, not, not_from_false, or_left, or_right, parent_in, refl, row_at, settled, standing_of, stands_on, subst, true, writer_of, ℕ}
use Rattle.std.proofs.Common.{map, option_map, ltb-true}
use Rattle.trio_laws.proofs.Modes.{MayChange, may_change}
use Rattle.trio_laws.specs.history.Entries.{mode_entry}
use Rattle.trio_laws.proofs.history.Extends.{Comes', Extends, past_is}
use Rattle.trio_laws.proofs.history.Facts.{any_none, node_is}
use Rattle.trio_laws.proofs.history.ModeNodes.{mode_nodes}

-- why a change is refused, of the parts that decide it
abbrev Caused : Option Row → Bool → Bool → ModeFault → Type 0
Caused row other big NotLive = row ≡ None
Caused None other big NotOwner = ⊥
Caused (Some r) other big NotOwner = other ≡ true
Caused row other big BadMode = big ≡ true
Caused row other big (Busy holder) = Unit {0}
Caused row other big OutOfMemory = ⊥

caused : (r : Row) (other big : Bool) (o : Option OpenGrant) (f : ModeFault) → cond other (Some NotOwner) (cond big (Some BadMode) (option_map (λ (g : OpenGrant). Busy (holder_of g)) o)) ≡ Some f → Caused (Some r) other big f
caused r other big o f e = search arith

not_owner : (a b : Bool) → (a || not b) ≡ true → (not a && b) ≡ false
not_owner a b e = search (arith, false≢true)

module _ (s : State) (k : Kept s) (lib ino mode : ℕ) (x : Beside) where
  -- where a call is told beside the change, it is replied as the answer says
  abbrev Fits : CtlAnswer → Type 0
  Fits answer = CallFits s lib ino mode x.call answer

  node_row : (o : Option Row) → row_at s.home ino ≡ o → node_at (nodes_of s) ino ≡ node_by (settled s) ino (writer_of s ino) o
  node_row o row = node_is s k ino ∙ ap (node_by (settled s) ino (writer_of s ino)) row

  pub none_on : (n : ℕ) → ((g : OpenGrant) → In g s.open_grants → g.ino ≡ n → ⊥) → stands_on (map standing_of s.open_grants) n ≡ false
  none_on n free =
      list_any-map standing_of (λ (g : Standing). eqb g.ino n) s.open_grants
      ∙ any_none (λ (g : OpenGrant). eqb g.ino n) s.open_grants (λ g i. ne_eqb g.ino n (free g i))

  owner_is : (r : Row) → MayChange s lib ino mode r → (not (eqb ino 1) && (eqb (creds_of s lib).uid 0 || eqb (creds_of s lib).uid r.uid)) ≡ true
  owner_is r may = search (arith, and_from, not_from_false, ne_eqb, or_left, eq-eqb, or_right)

  refused : (o : Option Row) (f : ModeFault) → row_at s.home ino ≡ o → mode_fault s lib ino mode o ≡ Some f → Fits (NotModeSet f) → Comes' s (SetMode lib ino mode) (NotModeSet f) (after_mode_fault s f) (mode_entry lib ino mode x.call f)
  refused None f row e fits =
      let t : NotLive ≡ f = cc e in
      let C : ModeFault → Type 0 = λ f. Fits (NotModeSet f) → Comes' s (SetMode lib ino mode) (NotModeSet f) (after_mode_fault s f) (mode_entry lib ino mode x.call f) in
      subst C t (λ fits. record { legal = (node_row None row, fits (Err NotLive) refl); comes = refl; tells = refl; says = refl }) fits
  refused (Some r) f row e fits =
      let uid : ℕ = (creds_of s lib).uid in
      by f (caused r (eqb ino 1 || not (eqb uid 0 || eqb uid r.uid)) (ltb 511 mode) (mode_excluding s ino r) f e) fits
    where
      by : (f : ModeFault) → Caused (Some r) (eqb ino 1 || not (eqb (creds_of s lib).uid 0 || eqb (creds_of s lib).uid r.uid)) (ltb 511 mode) f → Fits (NotModeSet f) → Comes' s (SetMode lib ino mode) (NotModeSet f) (after_mode_fault s f) (mode_entry lib ino mode x.call f)
      by NotLive c fits = absurd cc
      by NotOwner c fits = record {
        legal = (ap (is_owner (creds_of s lib) ino) (node_row (Some r) row) ∙ not_owner (eqb ino 1) (eqb (creds_of s lib).uid 0 || eqb (creds_of s lib).uid r.uid) c, fits (Err NotOwner) refl);
        comes = refl;
        tells = refl;
        says = refl;
      }
      by BadMode c fits = record { legal = (ltb-true 511 mode c, fits (Err BadMode) refl); comes = refl; tells = refl; says = refl }
      by (Busy holder) c fits = refl
      by OutOfMemory c fits = absurd c

  made : (o : Option Row) (f : Option ModeFault) → row_at s.home ino ≡ o → mode_fault s lib ino mode o ≡ f → Fits (moded_to s ino mode f).answer → Extends s x (SetMode lib ino mode) (moded_to s ino mode f).answer (moded_to s ino mode f).after
  made o (Some f) row e fits = refused o f row e fits
  made None None row e fits = absurd cc
  made (Some r) None row e fits =
      let may = may_change s lib ino mode r e in
      let s' : State = logged (record s { home = image_with_mode s.home ino mode }) in
      record {
        legal = (
          (
            ap (is_owner (creds_of s lib) ino) (node_row (Some r) row) ∙ owner_is r may,
            may.small,
            none_on ino (λ g i. (may.free g i).0),
            ap (λ n. stands_on (map standing_of s.open_grants) (parent_in n)) (node_row (Some r) row) ∙ none_on r.parent (λ g i. (may.free g i).1),
          ),
          fits (Ok tt) refl,
        );
        comes = past_is s' (moded_nodes ino mode (nodes_of s)) (map standing_of s.open_grants) (s.entries + 1) (mode_nodes s k ino mode r row may.small may.other may.free) refl refl;
        tells = refl;
        says = refl;
      }

  pub mode_extends : (answer : CtlAnswer) (s' : State) → Comes (mode_outcome s lib ino mode) answer s' → Fits answer → Extends s x (SetMode lib ino mode) answer s'
  mode_extends answer s' c fits = search (arith, made)
