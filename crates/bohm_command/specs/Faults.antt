-- Faults of the arguments.
use Rattle.std.specs.Prelude.{◌≡◌, ◌≢◌}
use Rattle.clap.specs.Words.{Kinds, IsAmong}
use Rattle.clap.specs.declared.error.kind.ErrorKind.{ErrorKind}
use Rattle.clap.specs.declared.error.kind.ErrorKind.TheVariants.{OutOfMemory, DisplayHelp, DisplayVersion}
use Rattle.bohm_command.specs.declared.fault.ArgumentFault.{ArgumentFault}
use Rattle.bohm_command.specs.declared.fault.ArgumentFault.TheVariants.{Bad, Help, Version, NoMemory}

abbrev pub IsNoMemory : ArgumentFault → Type 0
IsNoMemory (Bad text) = ⊥
IsNoMemory (Help text) = ⊥
IsNoMemory (Version text) = ⊥
IsNoMemory NoMemory = Unit {0}

-- help or the version was requested, or one of these faults was found that is no such request
abbrev pub IsFoundAmong : Kinds → ArgumentFault → Type 0
IsFoundAmong kinds (Bad text) = (kind : ErrorKind) × (kind ≢ DisplayHelp) × (kind ≢ DisplayVersion) × IsAmong kind kinds
IsFoundAmong kinds (Help text) = IsAmong DisplayHelp kinds
IsFoundAmong kinds (Version text) = IsAmong DisplayVersion kinds
IsFoundAmong kinds NoMemory = Unit {0}

-- a fault that clap's error of this kind becomes
abbrev pub IsOfKind : ErrorKind → ArgumentFault → Type 0
IsOfKind kind (Bad text) = (kind ≢ OutOfMemory) × (kind ≢ DisplayHelp) × (kind ≢ DisplayVersion)
IsOfKind kind (Help text) = kind ≡ DisplayHelp
IsOfKind kind (Version text) = kind ≡ DisplayVersion
IsOfKind kind NoMemory = Unit {0}
