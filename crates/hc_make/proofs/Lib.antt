mod Paired
