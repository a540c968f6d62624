mod Wishing
