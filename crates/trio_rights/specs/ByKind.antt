-- What goes by the kind of a file; a further kind is added here.
use Rattle.std.specs.Prelude.{Bool, true, false, not, ◌||◌}
use Rattle.trio_rights.specs.declared.kind.Kind.{Kind}
use Rattle.trio_rights.specs.declared.kind.Kind.TheVariants.{Regular, Directory, Link}

-- the file lists entries; any other holds bytes
abbrev pub is_directory : Kind → Bool
is_directory Regular = false
is_directory Directory = true
is_directory Link = false

-- the file is a symbolic link, whose bytes are a text that nobody here follows
abbrev pub is_link : Kind → Bool
is_link Regular = false
is_link Directory = false
is_link Link = true

-- bytes of the file are written, read and cut at places; of a directory and of a link they aren't
abbrev pub takes_offsets : Kind → Bool
takes_offsets Regular = true
takes_offsets Directory = false
takes_offsets Link = false

-- a checkpoint covers the blocks of such a file beside its index pages: a directory's, and those of a guarded file
abbrev pub covers_blocks : Kind → Bool → Bool
covers_blocks kind guarded = is_directory kind || guarded

-- a regular file alone may be guarded
abbrev pub guard_fits : Kind → Bool → Bool
guard_fits kind guarded = takes_offsets kind || not guarded
