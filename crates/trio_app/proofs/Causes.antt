-- What follows from what the top call came to where it answers a fault.
use Rattle.trio_app.proofs.Words.{◌<◌, ◌∙◌, ◌≡◌, ◌⊎◌, CheckComesTo, ComesTo, Command, Done, GenComesTo, List, Main, MigrateComesTo, NewComesTo, NoMemory, ReadFault, Rose, RunDone, ScriptComesTo, Shelf, SinkSeen, Status, TreeComesTo, TreeForm, TurnsDone, Usage, WriteFault, ap, arith, check, code_of, gen, help, inl, inr, migrate, new_image, run, sym, tree, turns, unknown, version, ℕ}

-- ---- the causes

-- status 4 comes only where the read faults of a file that is read rose
abbrev pub ReadFaultCause : Command → Shelf → Shelf → Type 0
ReadFaultCause (check image) old new = Rose (old.read_faults image) (new.read_faults image)
ReadFaultCause (tree image form) old new = Rose (old.read_faults image) (new.read_faults image)
ReadFaultCause (turns image script out) old new =
    Rose (old.read_faults image) (new.read_faults image) ⊎ Rose (old.read_faults script) (new.read_faults script)
ReadFaultCause (run image script out workers) old new =
    Rose (old.read_faults image) (new.read_faults image) ⊎ Rose (old.read_faults script) (new.read_faults script)
ReadFaultCause (migrate image out) old new = Rose (old.read_faults image) (new.read_faults image)
ReadFaultCause _ old new = ⊥

-- status 5 comes only where the write faults of OUT or the faults of the sink rose
abbrev pub WriteFaultCause : Command → Shelf → Shelf → ℕ → ℕ → Type 0
WriteFaultCause (new_image out pages inodes) old new faults faults' =
    Rose (old.write_faults out) (new.write_faults out) ⊎ Rose faults faults'
WriteFaultCause (turns image script out) old new faults faults' =
    Rose (old.write_faults out) (new.write_faults out) ⊎ Rose faults faults'
WriteFaultCause (run image script out workers) old new faults faults' =
    Rose (old.write_faults out) (new.write_faults out) ⊎ Rose faults faults'
WriteFaultCause (migrate image out) old new faults faults' =
    Rose (old.write_faults out) (new.write_faults out) ⊎ Rose faults faults'
WriteFaultCause _ old new faults faults' = Rose faults faults'

-- ---- status 4

script_read_fault : (IsRun : Type 0) (image script out : List ℕ) (old new : Shelf) (text : List ℕ) (status : Status) → code_of status ≡ 4 → ScriptComesTo IsRun image script out old new text status → Rose (old.read_faults image) (new.read_faults image) ⊎ Rose (old.read_faults script) (new.read_faults script)
script_read_fault IsRun image script out old new text ReadFault e (inl at_image) = inl at_image.0
script_read_fault IsRun image script out old new text ReadFault e (inr at_script) = inr at_script.0
script_read_fault IsRun image script out old new text _ e comes = absurd (omega arith)

check_read_fault : (image : List ℕ) (old new : Shelf) (text : List ℕ) (status : Status) → code_of status ≡ 4 → CheckComesTo image old new text status → Rose (old.read_faults image) (new.read_faults image)
check_read_fault image old new text ReadFault e comes = comes.0
check_read_fault image old new text _ e comes = absurd (omega arith)

tree_read_fault : (image : List ℕ) (form : TreeForm) (old new : Shelf) (text : List ℕ) (status : Status) → code_of status ≡ 4 → TreeComesTo image form old new text status → Rose (old.read_faults image) (new.read_faults image)
tree_read_fault image form old new text ReadFault e comes = comes.0
tree_read_fault image form old new text _ e comes = absurd (omega arith)

migrate_read_fault : (image out : List ℕ) (old new : Shelf) (text : List ℕ) (status : Status) → code_of status ≡ 4 → MigrateComesTo image out old new text status → Rose (old.read_faults image) (new.read_faults image)
migrate_read_fault image out old new text ReadFault e comes = comes.0
migrate_read_fault image out old new text _ e comes = absurd (omega arith)

new_read_fault : (out : List ℕ) (pages inodes : ℕ) (old new : Shelf) (text : List ℕ) (status : Status) → code_of status ≡ 4 → NewComesTo out pages inodes old new text status → ⊥
new_read_fault out pages inodes old new text ReadFault e comes = comes
new_read_fault out pages inodes old new text _ e comes = absurd (omega arith)

gen_low : (number files : ℕ) (text : List ℕ) (status : Status) (code : ℕ) → code_of status ≡ code → 0 < code → code < 6 → GenComesTo number files text status → ⊥
gen_low number files text Done code e low high comes = omega (arith, e)
gen_low number files text NoMemory code e low high comes = omega (arith, e)
gen_low number files text _ code e low high comes = comes

comes_read_fault : (command : Command) (old new : Shelf) (text : List ℕ) (status : Status) → code_of status ≡ 4 → ComesTo command old new text status → ReadFaultCause command old new
comes_read_fault (new_image out pages inodes) old new text status e comes = new_read_fault out pages inodes old new text status e comes.comes_to
comes_read_fault (check image) old new text status e comes = check_read_fault image old new text status e comes.comes_to
comes_read_fault (tree image form) old new text status e comes = tree_read_fault image form old new text status e comes.comes_to
comes_read_fault (turns image script out) old new text status e comes = script_read_fault (TurnsDone image script out old new text) image script out old new text status e comes.comes_to
comes_read_fault (run image script out workers) old new text status e comes = script_read_fault (RunDone image script out old new text) image script out old new text status e comes.comes_to
comes_read_fault (gen number files) old new text status e comes = absurd (gen_low number files text status 4 e (omega arith) (omega arith) comes.comes_to)
comes_read_fault (migrate image out) old new text status e comes = migrate_read_fault image out old new text status e comes.comes_to
comes_read_fault help old new text status e comes = let is : code_of status ≡ code_of Done = ap code_of comes.status_is in absurd (omega arith)
comes_read_fault version old new text status e comes = let is : code_of status ≡ code_of Done = ap code_of comes.status_is in absurd (omega arith)
comes_read_fault unknown old new text status e comes = let is : code_of status ≡ code_of Usage = ap code_of comes.status_is in absurd (omega arith)

pub main_read_fault : (command : Command) (old new : Shelf) (out out' : SinkSeen) (result : ℕ) → Main command old new out out' result → result ≡ 4 → ReadFaultCause command old new
main_read_fault command old new out out' result main e =
    elim main.puts [
      | inl done ↦ comes_read_fault command old new main.text main.status (sym done.0 ∙ e) main.comes_to
      | inr failed ↦ absurd (omega (arith, failed.0))
    ]

-- ---- status 5

script_write_fault : (IsRun : Type 0) (image script out : List ℕ) (old new : Shelf) (text : List ℕ) (status : Status) → code_of status ≡ 5 → ScriptComesTo IsRun image script out old new text status → Rose (old.write_faults out) (new.write_faults out)
script_write_fault IsRun image script out old new text WriteFault e comes = comes.rose
script_write_fault IsRun image script out old new text _ e comes = absurd (omega arith)

check_write_fault : (image : List ℕ) (old new : Shelf) (text : List ℕ) (status : Status) → code_of status ≡ 5 → CheckComesTo image old new text status → ⊥
check_write_fault image old new text WriteFault e comes = comes
check_write_fault image old new text _ e comes = absurd (omega arith)

tree_write_fault : (image : List ℕ) (form : TreeForm) (old new : Shelf) (text : List ℕ) (status : Status) → code_of status ≡ 5 → TreeComesTo image form old new text status → ⊥
tree_write_fault image form old new text WriteFault e comes = comes
tree_write_fault image form old new text _ e comes = absurd (omega arith)

migrate_write_fault : (image out : List ℕ) (old new : Shelf) (text : List ℕ) (status : Status) → code_of status ≡ 5 → MigrateComesTo image out old new text status → Rose (old.write_faults out) (new.write_faults out)
migrate_write_fault image out old new text WriteFault e comes = comes.rose
migrate_write_fault image out old new text _ e comes = absurd (omega arith)

new_write_fault : (out : List ℕ) (pages inodes : ℕ) (old new : Shelf) (text : List ℕ) (status : Status) → code_of status ≡ 5 → NewComesTo out pages inodes old new text status → Rose (old.write_faults out) (new.write_faults out)
new_write_fault out pages inodes old new text WriteFault e comes = comes.rose
new_write_fault out pages inodes old new text _ e comes = absurd (omega arith)

comes_write_fault : (command : Command) (old new : Shelf) (text : List ℕ) (status : Status) (faults faults' : ℕ) → code_of status ≡ 5 → ComesTo command old new text status → WriteFaultCause command old new faults faults'
comes_write_fault (new_image out pages inodes) old new text status faults faults' e comes = inl (new_write_fault out pages inodes old new text status e comes.comes_to)
comes_write_fault (check image) old new text status faults faults' e comes = absurd (check_write_fault image old new text status e comes.comes_to)
comes_write_fault (tree image form) old new text status faults faults' e comes = absurd (tree_write_fault image form old new text status e comes.comes_to)
comes_write_fault (turns image script out) old new text status faults faults' e comes = inl (script_write_fault (TurnsDone image script out old new text) image script out old new text status e comes.comes_to)
comes_write_fault (run image script out workers) old new text status faults faults' e comes = inl (script_write_fault (RunDone image script out old new text) image script out old new text status e comes.comes_to)
comes_write_fault (gen number files) old new text status faults faults' e comes = absurd (gen_low number files text status 5 e (omega arith) (omega arith) comes.comes_to)
comes_write_fault (migrate image out) old new text status faults faults' e comes = inl (migrate_write_fault image out old new text status e comes.comes_to)
comes_write_fault help old new text status faults faults' e comes = let is : code_of status ≡ code_of Done = ap code_of comes.status_is in absurd (omega arith)
comes_write_fault version old new text status faults faults' e comes = let is : code_of status ≡ code_of Done = ap code_of comes.status_is in absurd (omega arith)
comes_write_fault unknown old new text status faults faults' e comes = let is : code_of status ≡ code_of Usage = ap code_of comes.status_is in absurd (omega arith)

put_failed : (command : Command) (old new : Shelf) (faults faults' : ℕ) → Rose faults faults' → WriteFaultCause command old new faults faults'
put_failed (new_image out pages inodes) old new faults faults' rose = inr rose
put_failed (turns image script out) old new faults faults' rose = inr rose
put_failed (run image script out workers) old new faults faults' rose = inr rose
put_failed (migrate image out) old new faults faults' rose = inr rose
put_failed _ old new faults faults' rose = rose

pub main_write_fault : (command : Command) (old new : Shelf) (out out' : SinkSeen) (result : ℕ) → Main command old new out out' result → result ≡ 5 → WriteFaultCause command old new out.faults out'.faults
main_write_fault command old new out out' result main e =
    elim main.puts [
      | inl done ↦ comes_write_fault command old new main.text main.status out.faults out'.faults (sym done.0 ∙ e) main.comes_to
      | inr failed ↦ put_failed command old new out.faults out'.faults failed.1
    ]

-- ---- where no count can rise, there is no cause

pub no_read_cause : (command : Command) (old new : Shelf) → ((q : List ℕ) → Rose (old.read_faults q) (new.read_faults q) → ⊥) → ReadFaultCause command old new → ⊥
no_read_cause (check image) old new never rose = never image rose
no_read_cause (tree image form) old new never rose = never image rose
no_read_cause (turns image script out) old new never (inl rose) = never image rose
no_read_cause (turns image script out) old new never (inr rose) = never script rose
no_read_cause (run image script out workers) old new never (inl rose) = never image rose
no_read_cause (run image script out workers) old new never (inr rose) = never script rose
no_read_cause (migrate image out) old new never rose = never image rose
no_read_cause _ old new never cause = cause

pub no_write_cause : (command : Command) (old new : Shelf) (faults faults' : ℕ) → ((q : List ℕ) → Rose (old.write_faults q) (new.write_faults q) → ⊥) → (Rose faults faults' → ⊥) → WriteFaultCause command old new faults faults' → ⊥
no_write_cause (new_image out pages inodes) old new faults faults' never steady (inl rose) = never out rose
no_write_cause (new_image out pages inodes) old new faults faults' never steady (inr rose) = steady rose
no_write_cause (turns image script out) old new faults faults' never steady (inl rose) = never out rose
no_write_cause (turns image script out) old new faults faults' never steady (inr rose) = steady rose
no_write_cause (run image script out workers) old new faults faults' never steady (inl rose) = never out rose
no_write_cause (run image script out workers) old new faults faults' never steady (inr rose) = steady rose
no_write_cause (migrate image out) old new faults faults' never steady (inl rose) = never out rose
no_write_cause (migrate image out) old new faults faults' never steady (inr rose) = steady rose
no_write_cause _ old new faults faults' never steady cause = steady cause
