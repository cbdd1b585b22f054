-- What the stores in memory were prepared with, what they keep, and what a call does to one that
-- may fail.
use Rattle.std.specs.Prelude.{◌≡◌, ◌⊎◌, ◌+◌, ◌<◌, ℕ, List, ◌++◌, length, take, Option, Some, Err, Result, IsErrOf, OnOk, is_some}
use Rattle.std.specs.Option.{option_map}
use Rattle.pool_outer.specs.declared.failing.FailingCalls.{FailingCalls}
use Rattle.pool_outer.specs.declared.store.StoreError.{StoreError}
use Rattle.pool_outer.specs.declared.store.StoreError.TheVariants.{Failed}
use Rattle.pool_outer.specs.Cause.{HasCause}
use Rattle.pool_outer.specs.Files.{Contents, Lengths, Names, bytes_in, Elapses}
use Rattle.pool_outer.specs.MemoryCalls.{NextFails, one_more}
use Rattle.pool_store.specs.declared.memory.file.MemFile.{MemFile}
use Rattle.pool_store.specs.declared.memory.failing.MemStore.{MemStore}
use Rattle.pool_store.specs.declared.memory.sure.SureStore.{SureStore}
use Rattle.pool_store.specs.MemoryFiles.{file_in, solid_in}
use Rattle.pool_store.specs.Past.{LeftSince}

-- the files of a store that never fails
abbrev pub files_of : SureStore → List MemFile
files_of store = store.files.items

-- the store that never fails, under one that does
abbrev pub sure_store : MemStore → SureStore
sure_store store = store.inner

-- a store's calls, of which some fail
abbrev pub store_calls : MemStore → FailingCalls
store_calls store = store.calls

-- how many bytes may be written before it stops, if it does
abbrev pub bytes_left : MemStore → Option ℕ
bytes_left store = store.left

-- how many of a store's calls have failed
abbrev pub store_faults : MemStore → ℕ
store_faults store = store.faults

-- what its files hold, how much of them is solid, and which are known to be there
abbrev pub files_in : MemStore → Contents
files_in store = file_in store.inner.files.items

abbrev pub solids_in : MemStore → Lengths
solids_in store = solid_in store.inner.files.items

abbrev pub names_in : MemStore → Names
names_in store name = is_some (files_in store name)

-- the next call is one of those that fail, or the store has stopped
abbrev pub FailsNext : MemStore → Type 0
FailsNext store = NextFails store.calls ⊎ (store.left ≡ Some 0)

-- A call is counted, and fails where it was told to or the store has stopped.
pub record CountsCall {T : Type 0}
    (old new : MemStore) (result : Result T StoreError) : Type 0 where
  pub counted : store_calls new ≡ one_more (store_calls old)
  pub fails : FailsNext old → result ≡ Err Failed
  pub cause : HasCause Failed (store_faults old) (store_faults new) result

-- A call leads from one moment to another.
abbrev pub Goes : MemStore → MemStore → Type 0
Goes old new =
    Elapses (length old.inner.past.items) (length new.inner.past.items)
    (LeftSince old.inner.past.items old.inner.files.items)
    (LeftSince new.inner.past.items new.inner.files.items)
    (files_in new) (solids_in new)

-- An append writes as many bytes as are left before the stop, and fails where that isn't all.
pub record WritesUpTo {T : Type 0}
    (name bytes : List ℕ) (old new : MemStore) (result : Result T StoreError) : Type 0 where
  pub all : OnOk result (bytes_left old ≡ option_map (λ n. length bytes + n) (bytes_left new))
  pub stops :
      IsErrOf result Failed → FailsNext old
      ⊎ ((n : ℕ) × ((bytes_left old ≡ Some n) × ((n < length bytes)
      × ((bytes_left new ≡ Some 0)
      × (bytes_in (files_in new name) ≡ bytes_in (files_in old name) ++ take n bytes)))))
