-- Every grant keeps what holds of a state.
use Rattle.trio_laws.proofs.Words.{Bool, CtlAnswer, Grant, GrantFault, GrantKind, HasLentBlocks, Hold, Image, In, In-cases, IsFit, Kept, LentIsListed, List, MayBothStand, NoParent, None, OpenGrant, Option, Read, Row, Some, State, Step, Verifies, Write, [], all_pairs_push, and_from, ap, append-nil, arith, both_ways, cond, covered, denied_by, denied_or, eq-eqb, eqb, eqb-false, excludes_kind, excluding, false, false≢true, filter, flat_map-append, get_or, get_or-In, grant_fault, granted_to, guard_in, has_parent_grant, holder_of, inl, inr, is_read, is_some, is_write, lacks_parent, lent_pages, list_any, list_any-append, logged, not, not-false, opened, opens, option_map, or_left, refl, row_at, row_by, settled, settled_body, sheet_numbers, slice_get, subst, sym, true, ℕ, ◌&&◌, ◌++◌, ◌∙◌, ◌∷◌, ◌≡◌, ◌⊎◌}
use Rattle.std.proofs.lemmas.Bool.{and_cases}
use Rattle.trio_nodes.specs.declared.answers.GrantFault.TheVariants.{NotLive, Busy}
use Rattle.trio_laws.proofs.Cases.{after_no_grant}
use Rattle.trio_laws.proofs.StateFacts.{live_met}
use Rattle.trio_laws.proofs.WriteGrant.{write_grant_kept}

pub logged_kept : (s : State) → Kept s → Kept (logged s)
logged_kept s k = search arith

-- what a grant that isn't refused has passed
refusal_none : (live : Bool) (d : Option ℕ) (parent : Bool) (o : Option OpenGrant) → cond live (Some NotLive) (denied_or d (cond parent (Some NoParent) (option_map (λ (g : OpenGrant). Busy (holder_of g)) o))) ≡ None → (parent ≡ false) × (o ≡ None)
refusal_none live d parent o e = search arith

filter_step : {X : Type 0} (p : X → Bool) (x : X) (zs : List X) (b : Bool) → p x ≡ b → slice_get (cond b (x ∷ filter p zs) (filter p zs)) 0 ≡ None → (p x ≡ false) × (slice_get (filter p zs) 0 ≡ None)
filter_step p x zs true t e = absurd cc
filter_step p x zs false t e = (t, e)

pub none_passes : {X : Type 0} (p : X → Bool) (xs : List X) (x : X) → slice_get (filter p xs) 0 ≡ None → In x xs → p x ≡ false
none_passes p [] x e i = absurd i
none_passes p (z ∷ zs) x e (inl s) = ap p s ∙ (filter_step p z zs (p z) refl e).0
none_passes p (z ∷ zs) x e (inr i) = none_passes p zs x (filter_step p z zs (p z) refl e).1 i

pub excluded_none : (s : State) (lib ino : ℕ) (kind : GrantKind) → grant_fault s lib ino kind ≡ None → (g : OpenGrant) → In g s.open_grants → g.ino ≡ ino → excludes_kind kind g.kind (eqb g.lib lib) ≡ false
excluded_none s lib ino kind e g i same = search (arith, refusal_none, none_passes, and_cases, both_ways, eq-eqb)

write_grant : (s : State) (lib ino : ℕ) (r : Row) → Kept s → grant_fault s lib ino Write ≡ None → row_at s.home ino ≡ Some r → Kept (opens s (opened s lib ino Write r))
write_grant s lib ino r k e row =
    let m = live_met s k ino r row in
    let free : (g : OpenGrant) → In g s.open_grants → g.ino ≡ m.met.ino → ⊥ =
    λ g i same. false≢true (sym (excluded_none s lib ino Write e g i (same ∙ m.number))) in
    let K : ℕ → Row → Type 0 = λ n q. Kept (opens s (opened s lib n Write q)) in
    let a = write_grant_kept s k lib m.met m.file m.stands m.read free in
    subst (λ q. K ino q) (sym m.row) (subst (λ n. K n (row_by m.met m.file.body)) m.number a)

-- a grant that opened no page by move
module _ (s : State) (k : Kept s) (g : OpenGrant) (none : lent_pages g ≡ []) (bare : g.checkpoint ≡ []) (read : g.kind ≡ Write → ⊥) where
  pub settled_same : settled (opens s g) ≡ settled s
  settled_same = search (arith, flat_map-append, append-nil)

  any_more : (p : OpenGrant → Bool) → list_any p s.open_grants ≡ true → list_any p (s.open_grants ++ g ∷ []) ≡ true
  any_more p h = list_any-append p s.open_grants (g ∷ []) ∙ or_left (list_any p s.open_grants) (list_any p (g ∷ [])) h

  old_or_new : (h : OpenGrant) → In h (s.open_grants ++ g ∷ []) → In h s.open_grants ⊎ (h ≡ g)
  old_or_new h j =
      elim (In-cases h s.open_grants (g ∷ []) j) [
        | inl old ↦ inl old
        | inr new ↦ elim new [ inl same ↦ inr same | inr none' ↦ absurd none' ]
      ]

  pub parent_more : (l : ℕ) (r : Option Row) → has_parent_grant s l r ≡ true → has_parent_grant (opens s g) l r ≡ true
  parent_more l None h = h
  parent_more l (Some r) h = any_more (λ (x : OpenGrant). eqb x.lib l && eqb x.ino r.parent && is_write x.kind) h

  pub light_grant_kept : is_some (row_at s.home g.ino) ≡ true → ((h : OpenGrant) → In h s.open_grants → MayBothStand h g) → g.body ≡ settled_body (settled s) g.ino → (g.kind ≡ Hold → has_parent_grant s g.lib (row_at s.home g.ino) ≡ true) → sheet_numbers g.checkpoint ≡ sheet_numbers (covered g.kind g.of (guard_in g.body) g.index g.blocks) → Kept (opens s g)
  light_grant_kept live apart body held covers = record {
    fit = (let P : Image → Type 0 = λ x. IsFit x.core in subst P (sym settled_same) k.fit);
    verifies = (let P : Image → Type 0 = λ x. Verifies x in subst P (sym settled_same) k.verifies);
    live = λ h j. elim (old_or_new h j) [
      | inl old ↦ k.live h old
      | inr new ↦ ap (λ (x : OpenGrant). is_some (row_at s.home x.ino)) new ∙ live
    ];
    apart = all_pairs_push MayBothStand s.open_grants g k.apart (λ n d l. apart (get_or s.open_grants n d) (get_or-In s.open_grants n d l));
    bodies = λ h j. elim (old_or_new h j) [
      | inl old ↦ k.bodies h old ∙ ap (λ x. settled_body x h.ino) (sym settled_same)
      | inr new ↦
          let B : OpenGrant → Type 0 = λ x. x.body ≡ settled_body (settled (opens s g)) x.ino in
          subst B (sym new) (body ∙ ap (λ x. settled_body x g.ino) (sym settled_same))
    ];
    held = λ h j w. elim (old_or_new h j) [
      | inl old ↦ parent_more h.lib (row_at s.home h.ino) (k.held h old w)
      | inr new ↦
          let H : OpenGrant → Type 0 = λ x. has_parent_grant (opens s g) x.lib (row_at s.home x.ino) ≡ true in
          subst H (sym new) (parent_more g.lib (row_at s.home g.ino) (held (sym (ap (λ (x : OpenGrant). x.kind) new) ∙ w)))
    ];
    lent = λ h j w. elim (old_or_new h j) [
      | inl old ↦ let P : Image → Type 0 = λ x. LentIsListed x h in subst P (sym settled_same) (k.lent h old w)
      | inr new ↦ absurd (read (sym (ap (λ (x : OpenGrant). x.kind) new) ∙ w))
    ];
    checkpoints = λ h j. elim (old_or_new h j) [
      | inl old ↦ k.checkpoints h old
      | inr new ↦ search arith
    ];
    guarded = λ h j w d t. elim (old_or_new h j) [
      | inl old ↦ let P : Image → Type 0 = λ x. HasLentBlocks x h in subst P (sym settled_same) (k.guarded h old w d t)
      | inr new ↦ absurd (read (sym (ap (λ (x : OpenGrant). x.kind) new) ∙ w))
    ];
    absent = search (arith, any_more);
    pages_placed = k.pages_placed;
    out_free = k.out_free;
    numbers_placed = k.numbers_placed;
    numbers_free = k.numbers_free;
  }

reads_both : (kind : GrantKind) (same_lib : Bool) → excludes_kind Read kind same_lib ≡ false → (is_read kind ≡ true) × (same_lib ≡ false)
reads_both kind same_lib e = search (arith, false≢true)

read_grant : (s : State) (lib ino : ℕ) (r : Row) → Kept s → grant_fault s lib ino Read ≡ None → row_at s.home ino ≡ Some r → Kept (opens s (opened s lib ino Read r))
read_grant s lib ino r k e row =
    let g : OpenGrant = opened s lib ino Read r in
    light_grant_kept s k g refl refl (λ w. cc w) (ap is_some row)
    (λ h i same.
    let x = reads_both h.kind (eqb h.lib lib) (excluded_none s lib ino Read e h i same) in
    (and_from (is_read h.kind) true x.0 refl, eqb-false h.lib lib x.1))
    refl (λ w. absurd (cc w)) refl

hold_grant : (s : State) (lib ino : ℕ) (r : Row) → Kept s → grant_fault s lib ino Hold ≡ None → row_at s.home ino ≡ Some r → Kept (opens s (opened s lib ino Hold r))
hold_grant s lib ino r k e row =
    let g : OpenGrant = opened s lib ino Hold r in
    let q = refusal_none (not (is_some (row_at s.home ino))) (denied_by s lib ino Hold) (lacks_parent s lib ino Hold) (slice_get (excluding s lib ino Hold) 0) e in
    let parent : has_parent_grant s lib (row_at s.home ino) ≡ true = not-false (has_parent_grant s lib (row_at s.home ino)) q.0 in
    light_grant_kept s k g refl refl (λ w. cc w) (ap is_some row)
    (λ h i same. absurd (false≢true (sym (excluded_none s lib ino Hold e h i same))))
    refl (λ w. parent) refl

granted : (s : State) (lib ino : ℕ) (kind : GrantKind) (r : Row) → Kept s → grant_fault s lib ino kind ≡ None → row_at s.home ino ≡ Some r → Kept (opens s (opened s lib ino kind r))
granted s lib ino Read r k e row = read_grant s lib ino r k e row
granted s lib ino Write r k e row = write_grant s lib ino r k e row
granted s lib ino Hold r k e row = hold_grant s lib ino r k e row

outcome_kept : (s : State) (lib ino : ℕ) (kind : GrantKind) (a : Option GrantFault) (o : Option Row) → Kept s → grant_fault s lib ino kind ≡ a → row_at s.home ino ≡ o → Kept (granted_to s lib ino kind a o).after
outcome_kept s lib ino kind a o k e row = search (arith, after_no_grant, logged_kept, granted)

-- a step of a grant of any kind
pub grant_kept : (s s' : State) (lib ino : ℕ) (kind : GrantKind) (answer : CtlAnswer) → Kept s → Step s (Grant lib ino kind) answer s' → Kept s'
grant_kept s s' lib ino kind answer k step = search (arith, outcome_kept)
