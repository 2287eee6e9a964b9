-- What a call needs of the file that its walk has met.
use Rattle.trio_calls_file.proofs.Words.{◌+◌, ◌||◌, ◌∙◌, ◌∷◌, ◌≡◌, Bool, Call, Chmod, Create, Creds, Denied, Directory, IsFileCall, IsMet, Kind, ListNames, Met, Mkdir, Needed, Nodes, None, Option, Path, Read, ReadGrant, Regular, Rename, Rmdir, SessionSeen, Some, Stat, ToRead, Truncate, Unlink, Write, WriteGrant, [], ap, bytes_refusal, cond, eqb, false, gives, gives_met, is_some, largest_size, leb, length, ltb, met_needs, need_for, not, own_needs, refl, rights_of, sym, true, ℕ, Guard, Link, Readlink, Symlink, is_link, takes_offsets, text_refusal}
use Rattle.std.specs.Prelude.{◌&&◌}
use Rattle.trio_walk.specs.declared.met.Rights as shown_rights
use Rattle.trio_walk.proofs.Meeting.{gives_known}
use Rattle.trio_calls_file.proofs.Checking.{not-leb}

-- ---- the needs of the file

-- of bytes, where the rights are known
known_needs : (n : Needed) (kind : Kind) (g fits : Bool) → cond (not (takes_offsets kind)) [] (cond (not fits && not (not g)) [] (cond (not g && true) [] (n ∷ []))) ≡ cond (is_some (bytes_refusal kind g fits)) [] (n ∷ [])
known_needs n Directory g fits = refl
known_needs n Link g fits = refl
known_needs n Regular true true = refl
known_needs n Regular true false = refl
known_needs n Regular false true = refl
known_needs n Regular false false = refl

read_needs : (n : Needed) (kind : Kind) (g : Bool) → cond (not (takes_offsets kind)) [] (cond (not g && true) [] (n ∷ [])) ≡ cond (is_some (bytes_refusal kind g true)) [] (n ∷ [])
read_needs n Directory g = refl
read_needs n Link g = refl
read_needs n Regular true = refl
read_needs n Regular false = refl

-- of a link's text
text_needs : (n : Needed) (kind : Kind) (g : Bool) → cond (not (is_link kind)) [] (cond (not g && true) [] (n ∷ [])) ≡ cond (is_some (text_refusal kind g)) [] (n ∷ [])
text_needs n Directory g = refl
text_needs n Regular g = refl
text_needs n Link true = refl
text_needs n Link false = refl

stat_needs : (n : Needed) (g : Bool) → cond (not g && true) [] (n ∷ []) ≡ cond (is_some (cond (not g) (Some Denied) None)) [] (n ∷ [])
stat_needs n true = refl
stat_needs n false = refl

stat_unknown : (n : Needed) (g : Bool) → cond (not g && false) [] (n ∷ []) ≡ n ∷ []
stat_unknown n true = refl
stat_unknown n false = refl

module _ (shown : Bool) (s : SessionSeen) (nodes now : Nodes) (creds : Creds) (m : Met) (t : IsMet shown s nodes now creds m) (root : m.rights ≡ None → m.kind ≡ Directory) where
  abbrev knows : Bool
  knows = shown || not (eqb m.ino 1)

  gives_after : (call : Call) (r : shown_rights.Rights) → m.rights ≡ Some r → gives creds (need_for call) (rights_of t.after) ≡ gives_met creds m (need_for call)
  gives_after call r e = gives_known shown s nodes now creds m t (need_for call) r e

  known_is : (r : shown_rights.Rights) → m.rights ≡ Some r → (shown || not (eqb m.ino 1)) ≡ true
  known_is r e = t.known ∙ ap is_some e

  -- of a call that writes
  writing_is : (call : Call) (end : ℕ) (n : Needed) → (o : Option shown_rights.Rights) → m.rights ≡ o
      → cond (not (takes_offsets t.after.kind)) [] (cond (ltb largest_size end && not (not (gives creds (need_for call) (rights_of t.after)))) [] (cond (not (gives creds (need_for call) (rights_of t.after)) && (shown || not (eqb m.ino 1))) [] (n ∷ [])))
      ≡ cond (is_some (bytes_refusal m.kind (gives_met creds m (need_for call)) (leb end largest_size))) [] (n ∷ [])
  writing_is call end n (Some r) e =
      ap (λ k. cond (not (takes_offsets k)) [] (cond (ltb largest_size end && not (not (gives creds (need_for call) (rights_of t.after)))) [] (cond (not (gives creds (need_for call) (rights_of t.after)) && (shown || not (eqb m.ino 1))) [] (n ∷ [])))) t.kind
      ∙ ap (λ g. cond (not (takes_offsets m.kind)) [] (cond (ltb largest_size end && not (not g)) [] (cond (not g && (shown || not (eqb m.ino 1))) [] (n ∷ [])))) (gives_after call r e)
      ∙ ap (λ b. cond (not (takes_offsets m.kind)) [] (cond (b && not (not (gives_met creds m (need_for call)))) [] (cond (not (gives_met creds m (need_for call)) && (shown || not (eqb m.ino 1))) [] (n ∷ [])))) (sym (not-leb end largest_size))
      ∙ ap (λ b. cond (not (takes_offsets m.kind)) [] (cond (not (leb end largest_size) && not (not (gives_met creds m (need_for call)))) [] (cond (not (gives_met creds m (need_for call)) && b) [] (n ∷ [])))) (known_is r e)
      ∙ known_needs n m.kind (gives_met creds m (need_for call)) (leb end largest_size)
  writing_is call end n None e =
      ap (λ k. cond (not (takes_offsets k)) [] (cond (ltb largest_size end && not (not (gives creds (need_for call) (rights_of t.after)))) [] (cond (not (gives creds (need_for call) (rights_of t.after)) && (shown || not (eqb m.ino 1))) [] (n ∷ [])))) (t.kind ∙ root e)
      ∙ sym (ap (λ k. cond (is_some (bytes_refusal k (gives_met creds m (need_for call)) (leb end largest_size))) [] (n ∷ [])) (root e))

  -- of one that reads bytes
  reading_is : (call : Call) (n : Needed) → (o : Option shown_rights.Rights) → m.rights ≡ o
      → cond (not (takes_offsets t.after.kind)) [] (cond (not (gives creds (need_for call) (rights_of t.after)) && (shown || not (eqb m.ino 1))) [] (n ∷ []))
      ≡ cond (is_some (bytes_refusal m.kind (gives_met creds m (need_for call)) true)) [] (n ∷ [])
  reading_is call n (Some r) e =
      ap (λ k. cond (not (takes_offsets k)) [] (cond (not (gives creds (need_for call) (rights_of t.after)) && (shown || not (eqb m.ino 1))) [] (n ∷ []))) t.kind
      ∙ ap (λ g. cond (not (takes_offsets m.kind)) [] (cond (not g && (shown || not (eqb m.ino 1))) [] (n ∷ []))) (gives_after call r e)
      ∙ ap (λ b. cond (not (takes_offsets m.kind)) [] (cond (not (gives_met creds m (need_for call)) && b) [] (n ∷ []))) (known_is r e)
      ∙ read_needs n m.kind (gives_met creds m (need_for call))
  reading_is call n None e =
      ap (λ k. cond (not (takes_offsets k)) [] (cond (not (gives creds (need_for call) (rights_of t.after)) && (shown || not (eqb m.ino 1))) [] (n ∷ []))) (t.kind ∙ root e)
      ∙ sym (ap (λ k. cond (is_some (bytes_refusal k (gives_met creds m (need_for call)) true)) [] (n ∷ [])) (root e))

  -- of one that reads a link's text
  text_is : (call : Call) (n : Needed) → (o : Option shown_rights.Rights) → m.rights ≡ o
      → cond (not (is_link t.after.kind)) [] (cond (not (gives creds (need_for call) (rights_of t.after)) && (shown || not (eqb m.ino 1))) [] (n ∷ []))
      ≡ cond (is_some (text_refusal m.kind (gives_met creds m (need_for call)))) [] (n ∷ [])
  text_is call n (Some r) e =
      ap (λ k. cond (not (is_link k)) [] (cond (not (gives creds (need_for call) (rights_of t.after)) && (shown || not (eqb m.ino 1))) [] (n ∷ []))) t.kind
      ∙ ap (λ g. cond (not (is_link m.kind)) [] (cond (not g && (shown || not (eqb m.ino 1))) [] (n ∷ []))) (gives_after call r e)
      ∙ ap (λ b. cond (not (is_link m.kind)) [] (cond (not (gives_met creds m (need_for call)) && b) [] (n ∷ []))) (known_is r e)
      ∙ text_needs n m.kind (gives_met creds m (need_for call))
  text_is call n None e =
      ap (λ k. cond (not (is_link k)) [] (cond (not (gives creds (need_for call) (rights_of t.after)) && (shown || not (eqb m.ino 1))) [] (n ∷ []))) (t.kind ∙ root e)
      ∙ sym (ap (λ k. cond (is_some (text_refusal k (gives_met creds m (need_for call)))) [] (n ∷ [])) (root e))

  -- of a stat
  stat_is : (path : Path) (n : Needed) → (o : Option shown_rights.Rights) → m.rights ≡ o
      → cond (not (gives creds ToRead (rights_of t.after)) && (shown || not (eqb m.ino 1))) [] (n ∷ []) ≡ cond (is_some (cond (not (gives_met creds m ToRead)) (Some Denied) None)) [] (n ∷ [])
  stat_is path n (Some r) e =
      ap (λ g. cond (not g && (shown || not (eqb m.ino 1))) [] (n ∷ [])) (gives_after (Stat path) r e)
      ∙ ap (λ b. cond (not (gives_met creds m ToRead) && b) [] (n ∷ [])) (known_is r e)
      ∙ stat_needs n (gives_met creds m ToRead)
  stat_is path n None e =
      ap (λ b. cond (not (gives creds ToRead (rights_of t.after)) && b) [] (n ∷ [])) (t.known ∙ ap is_some e)
      ∙ stat_unknown n (gives creds ToRead (rights_of t.after))
      ∙ sym (ap (λ (o : Option shown_rights.Rights). cond (is_some (cond (not (gives_met creds (record m { rights = o }) ToRead)) (Some Denied) None)) [] (n ∷ [])) e)

  -- the file's own grant is asked of what was met
  pub own_is : (call : Call) → IsFileCall call → own_needs creds shown call m.ino t.after ≡ met_needs creds m call
  own_is (Write path at bytes) file = writing_is (Write path at bytes) (at + length bytes) (record { ino = m.ino; kind = WriteGrant }) m.rights refl
  own_is (Truncate path size) file = writing_is (Truncate path size) size (record { ino = m.ino; kind = WriteGrant }) m.rights refl
  own_is (Read path at len) file = reading_is (Read path at len) (record { ino = m.ino; kind = ReadGrant }) m.rights refl
  own_is (Stat path) file = stat_is path (record { ino = m.ino; kind = ReadGrant }) m.rights refl
  own_is (Mkdir path mode) file = absurd file
  own_is (Create path mode) file = absurd file
  own_is (Unlink path) file = absurd file
  own_is (Rmdir path) file = absurd file
  own_is (Rename from to) file = absurd file
  own_is (ListNames path from) file = absurd file
  own_is (Chmod path mode) file = absurd file
  own_is (Symlink path text) file = absurd file
  own_is (Readlink path) file = text_is (Readlink path) (record { ino = m.ino; kind = ReadGrant }) m.rights refl
  own_is (Guard path on) file = reading_is (Guard path on) (record { ino = m.ino; kind = WriteGrant }) m.rights refl
