-- A step of a grant extends the history.
use Rattle.trio_laws.proofs.Words.{◌++◌, ◌+◌, ◌∙◌, ◌∷◌, ◌≡◌, Beside, Bool, Comes, CtlAnswer, Grant, GrantFault, GrantKind, Kept, List, NoParent, None, OpenGrant, Option, Row, Some, Standing, State, Write, [], after_grant_fault, and_parts, ap, arith, both_ways, cond, denied_by, denied_or, eqb-true, excludes_kind, excluding, false, false_from_ne_true, grant_fault, grant_outcome, granted_to, has_parent_grant, holder_of, is_write, lacks_parent, list_any-map, map-append, node_at, node_by, nodes_of, not, opened, opens, refl, row_at, same_kind, settled, slice_get, standing_of, subst, sym, told_children, true, writer_of, ℕ}
use Rattle.std.proofs.Common.{map, is_some, option_map}
use Rattle.trio_nodes.specs.declared.answers.GrantFault.TheVariants.{NotLive, Denied, Busy, NoMemory as OutOfMemory}
use Rattle.trio_state.specs.Step.{Granted, NotGranted}
use Rattle.trio_laws.proofs.Grants.{excluded_none}
use Rattle.trio_nodes.specs.declared.entry.Entry.TheVariants.{Grant as GrantEntry}
use Rattle.trio_nodes.specs.declared.entry.GrantAnswer.TheVariants.{Granted as IsGranted}
use Rattle.trio_nodes.specs.Standing.{is_excluded}
use Rattle.trio_nodes.specs.Legal.{lacks_directory, parent_stands}
use Rattle.trio_laws.specs.history.Entries.{grant_entry}
use Rattle.trio_laws.proofs.history.Extends.{Makes, Comes', Extends, past_is}
use Rattle.trio_laws.proofs.history.Facts.{any_same, any_none, node_is}
use Rattle.trio_laws.proofs.history.GrantNodes.{grant_nodes}
use Rattle.trio_laws.proofs.history.Rights.{denier_is}

-- one kind of write grant
write_same : (k : GrantKind) → same_kind k Write ≡ is_write k
write_same k = search arith

excludes_same : (asked other : GrantKind) (b : Bool) → excludes_kind asked other b ≡ excludes_kind asked other b
excludes_same asked other b = search arith

-- why a grant is refused, of the parts that decide it
abbrev Caused : Option Row → Option ℕ → Bool → GrantFault → Type 0
Caused row by lacks NotLive = row ≡ None
Caused row by lacks (Denied n) = by ≡ Some n
Caused row by lacks NoParent = lacks ≡ true
Caused row by lacks (Busy holder) = Unit {0}
Caused row by lacks OutOfMemory = ⊥

caused : (row : Option Row) (by : Option ℕ) (lacks : Bool) (o : Option OpenGrant) (f : GrantFault) → cond (not (is_some row)) (Some NotLive) (denied_or by (cond lacks (Some NoParent) (option_map (λ (g : OpenGrant). Busy (holder_of g)) o))) ≡ Some f → Caused row by lacks f
caused row by lacks o f e = search arith

passed : (row : Option Row) (by : Option ℕ) (lacks : Bool) (o : Option OpenGrant) → cond (not (is_some row)) (Some NotLive) (denied_or by (cond lacks (Some NoParent) (option_map (λ (g : OpenGrant). Busy (holder_of g)) o))) ≡ None → (by ≡ None) × (lacks ≡ false)
passed row by lacks o e = search arith

module _ (s : State) (k : Kept s) (lib ino : ℕ) (kind : GrantKind) where
  abbrev gs : List Standing
  gs = map standing_of s.open_grants

  parent_is : (n : ℕ) (o : Option Row) → parent_stands gs lib (node_by (settled s) n (writer_of s n) o) ≡ has_parent_grant s lib o
  parent_is n o = search (arith, list_any-map, any_same, write_same)

  lacks_is : (t : GrantKind) → lacks_directory gs lib t (node_at (nodes_of s) ino) ≡ lacks_parent s lib ino t
  lacks_is t = search (arith, node_is, parent_is)

  excluded_is : grant_fault s lib ino kind ≡ None → is_excluded gs lib ino kind ≡ false
  excluded_is e = search (arith, list_any-map, any_none, false_from_ne_true, and_parts, both_ways, excluded_none, eqb-true, excludes_same)

  live_is : (r : Row) → row_at s.home ino ≡ Some r → is_some (node_at (nodes_of s) ino) ≡ true
  live_is r row = ap is_some (node_is s k ino ∙ ap (node_by (settled s) ino (writer_of s ino)) row)

  -- a grant that is given
  given : (r : Row) → grant_fault s lib ino kind ≡ None → row_at s.home ino ≡ Some r → (children : ℕ) → Makes s (Grant lib ino kind) (Granted children) (opens s (opened s lib ino kind r)) (GrantEntry (record { 0 = lib }) ino kind (IsGranted children))
  given r e row children =
      let p = passed (row_at s.home ino) (denied_by s lib ino kind) (lacks_parent s lib ino kind) (slice_get (excluding s lib ino kind) 0) e in
      let g : OpenGrant = opened s lib ino kind r in
      record {
        legal = (live_is r row, denier_is s k lib ino kind ∙ p.0, lacks_is kind ∙ p.1, excluded_is e);
        comes = past_is (opens s g) (nodes_of s) (gs ++ standing_of g ∷ []) (s.entries + 1) (grant_nodes s k lib ino kind r e row) (map-append standing_of s.open_grants (g ∷ [])) refl;
        tells = refl;
        says = refl;
      }

  none_row : row_at s.home ino ≡ None → node_at (nodes_of s) ino ≡ None
  none_row row = node_is s k ino ∙ ap (node_by (settled s) ino (writer_of s ino)) row

  refused : (f : GrantFault) → Caused (row_at s.home ino) (denied_by s lib ino kind) (lacks_parent s lib ino kind) f → Comes' s (Grant lib ino kind) (NotGranted f) (after_grant_fault s f) (grant_entry lib ino kind f)
  refused NotLive c = record { legal = none_row c; comes = refl; tells = refl; says = refl }
  refused (Denied n) c = record { legal = denier_is s k lib ino kind ∙ c; comes = refl; tells = refl; says = refl }
  refused NoParent c = record { legal = lacks_is kind ∙ c; comes = refl; tells = refl; says = refl }
  refused (Busy holder) c = refl
  refused OutOfMemory c = absurd c

  outcome : (x : Beside) (f : Option GrantFault) (o : Option Row) → grant_fault s lib ino kind ≡ f → row_at s.home ino ≡ o → Extends s x (Grant lib ino kind) (granted_to s lib ino kind f o).answer (granted_to s lib ino kind f o).after
  outcome x (Some f) o e row = refused f (caused (row_at s.home ino) (denied_by s lib ino kind) (lacks_parent s lib ino kind) (slice_get (excluding s lib ino kind) 0) f e)
  outcome x None None e row = refl
  outcome x None (Some r) e row = given r e row (told_children s.home ino kind)

  pub grant_extends : (x : Beside) (answer : CtlAnswer) (s' : State) → Comes (grant_outcome s lib ino kind) answer s' → Extends s x (Grant lib ino kind) answer s'
  grant_extends x answer s' c =
      let E : CtlAnswer → State → Type 0 = λ a t. Extends s x (Grant lib ino kind) a t in
      let o = grant_outcome s lib ino kind in
      subst (λ a. E a s') (sym c.0) (subst (λ t. E o.answer t) (sym c.1) (outcome x (grant_fault s lib ino kind) (row_at s.home ino) refl refl))
